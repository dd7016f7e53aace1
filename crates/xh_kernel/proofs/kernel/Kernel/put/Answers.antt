use Rattle.xh_kernel.proofs.Calling.{rules, sym, taken}
use Rattle.xh_kernel.proofs.Common.{[], ◌∷◌}
use Rattle.xh_kernel.proofs.kernel.Kernel.put.Goals as goal

pub returns-clause-call : goal.returns-clause-call
returns-clause-call g c =
    let e = c.put-answer.ensures in
    rw (sym c.of-before.ensures) (search rules, search rules, rw (sym c.account.view_is) (taken _ _ _ _ _ (λ b. b.len) g.N.Names.parts _ _ (c.args.arena ∷ []) e.tallies e.asked (rw (sym c.of-before.ensures) at e.refused)), c.note.ensures.step _ (search rules))
