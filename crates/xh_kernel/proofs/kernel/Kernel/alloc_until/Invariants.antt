use Rattle.xh_kernel.proofs.Recorded.{InVain}
use Rattle.xh_kernel.specs.Did.{DidAlloc}
use Rattle.xh_kernel.specs.Waits.{IsNoMemory}
use Rattle.xh_kernel.proofs.kernel.Kernel.alloc_until.Given as goal

abbrev pub invariant-loop : goal.invariant-loop
invariant-loop g l = InVain (DidAlloc g.N.Names.parts g.N.Names.leads l.fn.p l.fn.n l.fn.arena) IsNoMemory l.fn.account l.account
