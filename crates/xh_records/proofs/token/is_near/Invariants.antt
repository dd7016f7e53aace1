use Rattle.std.proofs.Common.{◌≡◌, ◌≢◌, ℕ, ◌≤◌, ◌<◌, get_or, false}
use Rattle.xh_records.proofs.token.is_near.Given as goal

abbrev pub invariant-loop-at : goal.invariant-loop-at
invariant-loop-at l = l.near ≡ false → (j : ℕ) → l.k ≤ j → j < l.at → get_or l.order j 0 ≢ l.slot
