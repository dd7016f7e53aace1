use Rattle.xh_kernel.proofs.Common.{DidGive, no_room, ◌≡◌}
use Rattle.xh_kernel.proofs.Recorded.{InVain}
use Rattle.xh_kernel.proofs.kernel.Kernel.give_until.Given as goal

abbrev pub invariant-loop : goal.invariant-loop
invariant-loop g l = InVain (DidGive g.N.Names.leads l.fn.p l.fn.e l.fn.tag l.fn.blocks) (λ a. a ≡ no_room l.fn.blocks) l.fn.account l.account
