use Rattle.std.proofs.Common.{All}
use Rattle.xh_heap.proofs.threads.join_all.Given as goal

abbrev pub invariant-loop-thread : goal.invariant-loop-thread
invariant-loop-thread g l = All (λ a. g.J.Host.answered a g.P.Process.parts) l.answers.items
