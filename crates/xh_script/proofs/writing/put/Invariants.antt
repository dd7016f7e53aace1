use Rattle.xh_script.proofs.Common.{List, WritesBytes, length, ℕ, ◌++◌, ◌≡◌}
use Rattle.xh_script.proofs.writing.put.Given as goal

abbrev pub invariant-loop-rest : goal.invariant-loop-rest
invariant-loop-rest g l = (written : List ℕ) × WritesBytes g.W.Write.contents l.fn.writer l.writer written × (l.bytes ≡ written ++ l.rest)

abbrev pub decreases-loop-rest : goal.decreases-loop-rest
decreases-loop-rest g l = length l.rest
