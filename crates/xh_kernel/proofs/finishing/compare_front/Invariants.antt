use Rattle.xh_kernel.proofs.Common.{◌≡◌}
use Rattle.xh_kernel.proofs.Compared.{SeenSoFar}
use Rattle.xh_kernel.proofs.finishing.compare_front.Given as goal

abbrev pub invariant-loop-pen : goal.invariant-loop-pen
invariant-loop-pen g l = (l.pens ≡ l.fn.pens) × SeenSoFar l.fn.pens l.fn.front l.front l.pen-index
