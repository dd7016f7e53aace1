use Rattle.xh_core.proofs.Common.{IsRow, row_at, ℕ, ◌<◌}
use Rattle.xh_core.proofs.contract.is_in_range.Given as goal

abbrev pub invariant-loop-at : goal.invariant-loop-at
invariant-loop-at l = (i : ℕ) → i < l.at → IsRow (row_at l.rows i)
