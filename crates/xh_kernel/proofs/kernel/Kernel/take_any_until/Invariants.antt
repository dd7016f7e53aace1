use Rattle.xh_kernel.proofs.Common.{DidTakeAny, Empty, Err, ◌≡◌}
use Rattle.xh_kernel.proofs.Recorded.{InVain}
use Rattle.xh_kernel.proofs.kernel.Kernel.take_any_until.Given as goal

abbrev pub invariant-loop : goal.invariant-loop
invariant-loop g l = InVain (DidTakeAny g.N.Names.leads l.fn.p l.fn.ends) (λ a. a ≡ Err Empty) l.fn.account l.account
