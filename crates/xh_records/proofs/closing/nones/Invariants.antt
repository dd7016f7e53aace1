use Rattle.xh_records.proofs.Common.{◌≡◌, ℕ, ◌≤◌, None, vec_len, vec_capacity, slot_at}
use Rattle.xh_records.proofs.closing.nones.Given as goal

abbrev pub invariant-loop : goal.invariant-loop
invariant-loop g l = (vec_len l.held ≡ l.counter) × (l.count ≤ vec_capacity l.held) × ((r : ℕ) → slot_at l.held.items r ≡ None)
