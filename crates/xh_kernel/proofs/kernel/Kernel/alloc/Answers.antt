use Rattle.xh_kernel.proofs.Calling.{rules, sym, taken}
use Rattle.xh_kernel.proofs.Common.{[], ◌∷◌}
use Rattle.xh_kernel.proofs.kernel.Kernel.alloc.Goals as goal

pub returns : goal.returns
returns g c =
    let e = c.alloc-answer.ensures in
    (search rules, search rules, rw (sym c.account.view_is) (taken _ _ _ _ _ (λ b. b.len) g.N.Names.parts _ _ (c.args.arena ∷ []) e.tallies e.asked e.refused), c.note.ensures.step _ (search rules))
