use Rattle.xh_records.proofs.Common.{◌≡◌, ℕ, ◌≤◌, some, get_elem?}
use Rattle.xh_records.proofs.token.plain_position.Given as goal

abbrev pub invariant-loop-k : goal.invariant-loop-k
invariant-loop-k l = (j : ℕ) × (l.k ≤ j) × (get_elem? l.order j ≡ some l.slot)
