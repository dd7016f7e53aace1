use Rattle.xh_core.proofs.Common.{length}
use Rattle.xh_core.proofs.twice.+is_twice.Given as goal

abbrev pub decreases-is_twice : goal.decreases-is_twice
decreases-is_twice l = length l.blocks.now
