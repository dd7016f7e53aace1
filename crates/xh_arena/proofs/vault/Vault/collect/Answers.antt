use Rattle.xh_arena.proofs.Common.{sym, ap, ◌∙◌, subst, AreOfOneWhole, Balanced, booked}
use Rattle.xh_arena.proofs.Shown.{collect_kept}
use Rattle.xh_arena.proofs.vault.Vault.collect.Goals as goal

now : (c : goal.After-look) → Balanced (booked c.self.inside.arena) c.look.new.self.parts
now c =
    let same = ap (λ s. s.parts) c.look.ensures.0 in
    collect_kept (booked c.self.inside.arena) _ _ _ _ _ _ c.self.invariant.balanced c.tally.invariant (same ∙ c.keep.ensures.1) (subst AreOfOneWhole (sym same) c.look.ensures.1)

pub invariant_of-self : goal.invariant_of-self
invariant_of-self c = record { balanced = now c; worn = c.self.invariant.worn; most = c.self.invariant.most }

pub returns-clause-summed : goal.returns-clause-summed
returns-clause-summed c = (now c).2
