-- The calls that end a process, in the histories.
use Rattle.std.specs.Prelude.{◌≡◌, ℕ, Result, Err, MatchResult}
use Rattle.xh_core.specs.declared.refused.Refused.{Refused}
use Rattle.xh_calls.specs.Calls.{Looks}
use Rattle.xh_calls.specs.declared.call.Call.TheVariants as call
use Rattle.xh_calls.specs.Leading.{Leading}
use Rattle.xh_calls.specs.Places.{status_at}
use Rattle.xh_kernel.specs.Accounts.{AccountOf, HasBack, IsStill}
use Rattle.xh_kernel.specs.Calls.{Calls}
use Rattle.xh_model.specs.Words.{place_of}
use Rattle.xh_place.specs.Calls.{Stops}

abbrev pub Exits : Leading → ℕ → ℕ → AccountOf → AccountOf → Result ℕ Refused → Type 0
Exits leads p budget old new result = (bytes : ℕ)
    × Calls leads (place_of p) (call.Stop p budget bytes result) (HasBack bytes) (λ from to. Stops (status_at p from) budget bytes from to result) old new

-- the worker looked whether the process runs; where it doesn't, the refusal is the answer, and nothing else was done
abbrev pub LooksFirst : Leading → ℕ → AccountOf → AccountOf → {A : Type 0} → Result A Refused → (AccountOf → Type 0) → Type 0
LooksFirst leads p old new result next = (mid : AccountOf) × (looked : Result (Unit {0}) Refused)
    × Calls leads (place_of p) (call.Look p looked) IsStill (λ from to. Looks p from to looked) old mid
    × MatchResult looked (λ _. next mid) (λ why. (result ≡ Err why) × (new ≡ mid))

abbrev pub Kills : Leading → ℕ → ℕ → ℕ → AccountOf → AccountOf → Result ℕ Refused → Type 0
Kills leads by victim budget old new result = LooksFirst leads by old new result (λ mid. Exits leads victim budget mid new result)
