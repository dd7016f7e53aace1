use Rattle.xh_calls.proofs.Vaulted.{cut_stays, keeps}
use Rattle.xh_calls.proofs.arenas.LentVaults.cut.Goals as goal

pub invariant_of-kept : goal.invariant_of-kept
invariant_of-kept g c =
    let was = c.kept.invariant in let e = c.enter.ensures in
    keeps g.N.Names.parts c.kept.inside.vault c.kept.inside.pen c.enter.new.pen was e.same e.entered e.theirs (cut_stays g.N.Names.parts _ c.args.k _ _ _ _ _ _ was.1 c.cut.ensures.done)
