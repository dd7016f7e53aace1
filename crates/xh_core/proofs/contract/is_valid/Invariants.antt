use Rattle.xh_core.proofs.Common.{Agree, row_at, ℕ, ◌<◌}
use Rattle.xh_core.proofs.contract.is_valid.Given as goal

abbrev pub invariant-loop-at : goal.invariant-loop-at
invariant-loop-at l = (i j : ℕ) → i < j → j < l.at → Agree (row_at l.rows i) (row_at l.rows j)

abbrev pub invariant-loop-before : goal.invariant-loop-before
invariant-loop-before l = (i : ℕ) → i < l.before → Agree (row_at l.rows i) (row_at l.rows l.at)
