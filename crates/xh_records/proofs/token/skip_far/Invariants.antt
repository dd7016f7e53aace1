use Rattle.xh_records.proofs.Common.{◌≡◌, ℕ, ◌≤◌, ◌<◌, length, some, get_elem?}
use Rattle.xh_records.proofs.token.skip_far.Given as goal

abbrev pub invariant-loop-end : goal.invariant-loop-end
invariant-loop-end l = (j : ℕ) × (j < l.end) × (l.end ≤ length l.order) × (get_elem? l.order j ≡ some l.slot)

abbrev pub decreases-loop-end : goal.decreases-loop-end
decreases-loop-end l = l.end
