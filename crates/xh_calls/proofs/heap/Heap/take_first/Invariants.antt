use Rattle.xh_calls.proofs.Common.{AreReady, HaveLooked, IsSamePlace, drop, take}
use Rattle.xh_calls.proofs.heap.Heap.take_first.Given as goal

abbrev pub invariant-loop-at : goal.invariant-loop-at
invariant-loop-at g l = IsSamePlace l.fn.place l.place × AreReady l.p l.place (drop l.at l.ends) × HaveLooked l.p (take l.at l.ends) l.fn.place l.place l.closed
