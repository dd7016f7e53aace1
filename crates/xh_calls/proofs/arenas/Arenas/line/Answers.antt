use Rattle.xh_calls.proofs.Vaulted.{keeps}
use Rattle.xh_calls.proofs.arenas.Arenas.line.Goals as goal

pub invariant_of-kept : goal.invariant_of-kept
invariant_of-kept g c =
    let e = c.enter.ensures in let was = c.kept.invariant in keeps g.N.Names.parts c.kept.inside.vault c.kept.inside.pen c.enter.new.pen was e.same e.entered e.theirs was.1
