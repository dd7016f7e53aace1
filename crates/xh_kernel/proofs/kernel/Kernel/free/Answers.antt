use Rattle.xh_kernel.proofs.Calling.{given, rules, sym}
use Rattle.xh_kernel.proofs.kernel.Kernel.free.Goals as goal

pub returns : goal.returns
returns g c =
    let e = c.free-answer.ensures in
    (search rules, search rules, rw (sym c.account.view_is) (given _ _ _ _ _ (λ n. n) _ _ c.account.invariant.0.0 e.arena e.tallies e.asked), c.note.ensures.step _ (search rules))
