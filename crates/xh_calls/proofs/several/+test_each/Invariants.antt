use Rattle.xh_calls.proofs.Common.{length}
use Rattle.xh_calls.proofs.several.+test_each.Given as goal

abbrev pub decreases-test_each : goal.decreases-test_each
decreases-test_each l = length l.ends.now
