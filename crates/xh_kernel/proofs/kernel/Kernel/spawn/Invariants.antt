use Rattle.xh_kernel.specs.Waits.{AskedAll}
use Rattle.xh_kernel.proofs.kernel.Kernel.spawn.Given as goal

abbrev pub invariant-loop-number : goal.invariant-loop-number
invariant-loop-number g l = AskedAll g.N.Names.parts g.N.Names.leads l.number l.fn.account l.account
