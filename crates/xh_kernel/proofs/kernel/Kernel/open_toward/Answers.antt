use Rattle.xh_kernel.proofs.Calling.{END_BYTES, rules, sym, taken, ◌*◌}
use Rattle.xh_kernel.proofs.Common.{[], ◌∷◌}
use Rattle.xh_kernel.proofs.kernel.Kernel.open_toward.Goals as goal

pub returns-clause-call : goal.returns-clause-call
returns-clause-call g c =
    let e = c.open_toward-answer.ensures in
    rw (sym c.of-by.ensures) (search rules, search rules, rw (sym c.account.view_is) (taken _ _ _ _ _ (λ _. 2 * END_BYTES) g.N.Names.parts _ _ (c.args.arena ∷ c.args.arena ∷ []) e.tallies e.asked e.refused), c.note.ensures.step _ (search rules))
