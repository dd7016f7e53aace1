use Rattle.xh_kernel.proofs.Common.{DidTake, Empty, Err, ◌≡◌}
use Rattle.xh_kernel.proofs.Recorded.{InVain}
use Rattle.xh_kernel.proofs.kernel.Kernel.take_until.Given as goal

abbrev pub invariant-loop : goal.invariant-loop
invariant-loop g l = InVain (DidTake g.N.Names.leads l.fn.p l.fn.e) (λ a. a ≡ Err Empty) l.fn.account l.account
