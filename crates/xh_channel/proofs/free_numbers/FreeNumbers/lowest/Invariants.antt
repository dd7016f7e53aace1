use Rattle.xh_channel.proofs.Common.{at_place, false, has_depth, ℕ, ◌<◌, ◌≡◌}
use Rattle.xh_channel.proofs.free_numbers.FreeNumbers.lowest.Given as goal

abbrev pub invariant-loop-at : goal.invariant-loop-at
invariant-loop-at l = (i : ℕ) → i < l.at → has_depth l.depth (at_place l.self.pairs.items i) ≡ false
