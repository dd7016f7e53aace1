-- What a call is to the worker that made it: an entry of the place's history, what it did to the worker's tallies, and what it did to the place.
use Rattle.std.specs.Prelude.{◌≡◌, ℕ, List, [], ◌∷◌, ◌++◌, slice_set}
use Rattle.xh_calls.specs.declared.call.Call.{Call}
use Rattle.xh_calls.specs.declared.call.Entry.{Entry}
use Rattle.xh_calls.specs.Leading.{Leading}
use Rattle.xh_calls.specs.Parts.{PartsOf}
use Rattle.xh_core.specs.declared.glance.Glance.{Glance}
use Rattle.xh_history.specs.Histories.{History, at, calls_of}
use Rattle.xh_kernel.specs.Accounts.{AccountOf}
use Rattle.xh_kernel.specs.Histories.{IsHistoryOf}
use Rattle.xh_place.specs.Places.{PlaceSeen}

-- the worker of this number made the call on the place k: what it has seen of the place's history is what it had seen, then calls of others, then this one; of the others it has seen what it had
pub record Noted (k : ℕ) (e : Call) (number : ℕ) (old new : List (History Entry)) : Type 0 where
  pub others : History Entry
  pub not_its_own : calls_of number others ≡ []
  pub glance : Glance
  pub seen : new ≡ slice_set old k ((at old k ++ others) ++ (number, record { call = e; glance = glance }) ∷ [])

-- by the last call of the place's history, which leads to it, the place became what it was after the call; and so much is true of what it was before and after
-- (truncated, since a ghost field has one proof at most, and several lists of places may fit the entries)
abbrev pub Steps : Leading → ℕ → History Entry → (PlaceSeen → PlaceSeen → Type 0) → Type 0
Steps leads k h R = ∥ ((earlier : History Entry) × (c : ℕ × Entry) × (old : PlaceSeen) × (new : PlaceSeen) × (h ≡ earlier ++ c ∷ []) × leads k earlier old × leads k h new × R old new) ∥₁

-- wherever the calls led before the last one, by that they lead from there to this place
abbrev pub LeadsOn : PartsOf → Leading → ℕ → History Entry → History Entry → PlaceSeen → Type 0
LeadsOn parts leads k before h to = (from : PlaceSeen) → IsHistoryOf parts k before from → Steps leads k h (λ old new. (old ≡ from) × (new ≡ to))

-- the worker of the account made the call on the place k, and moved this; and this is what the call did to the place
abbrev pub Calls : Leading → ℕ → Call → (AccountOf → AccountOf → Type 0) → (PlaceSeen → PlaceSeen → Type 0) → AccountOf → AccountOf → Type 0
Calls leads k e Moves R old new = (new.number ≡ old.number) × Noted k e old.number old.fronts new.fronts × Moves old new × Steps leads k (at new.fronts k) R
