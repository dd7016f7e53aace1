use Rattle.xh_records.proofs.Common.{◌≡◌, ℕ, ◌≤◌, ◌<◌, length, some, get_elem?}
use Rattle.xh_records.proofs.token.position.Given as goal

abbrev pub invariant-loop-k : goal.invariant-loop-k
invariant-loop-k l = (l.k < length l.order) × (j : ℕ) × (j ≤ l.k) × (get_elem? l.order j ≡ some l.slot)

abbrev pub decreases-loop-k : goal.decreases-loop-k
decreases-loop-k l = l.k
