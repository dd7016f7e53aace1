-- What each call on one place is to the worker that made it, by the call's name.
use Rattle.std.specs.Prelude.{◌≡◌, ℕ, ◌/◌, List, [], ◌∷◌, Result, MatchResult, length}
use Rattle.xh_calls.specs.Calls.{space_of}
use Rattle.xh_calls.specs.Leading.{Leading}
use Rattle.xh_calls.specs.Parts.{PartsOf}
use Rattle.xh_calls.specs.Places.{status_at}
use Rattle.xh_calls.specs.Several.{TakesAny}
use Rattle.xh_calls.specs.Vaults.{Entered}
use Rattle.xh_calls.specs.declared.call.Call.TheVariants as call
use Rattle.xh_calls.specs.declared.several.AnsweredAt.{AnsweredAt}
use Rattle.xh_core.specs.Space.{rounded}
use Rattle.xh_core.specs.declared.block.Block.{Block}
use Rattle.xh_core.specs.declared.refused.Refused.{Refused}
use Rattle.xh_kernel.specs.Accounts.{AccountOf, GivesBytes, HasBack, IsStill, TakesBytes}
use Rattle.xh_kernel.specs.Calls.{Calls}
use Rattle.xh_model.specs.declared.limits.TheConstants.{MAX_RECORDS}
use Rattle.xh_model.specs.Words.{place_of}
use Rattle.xh_place.specs.Calls.{Allocates, Closes, FreesBlock, GivesUp, HasBytes, Makes, Reads, Splits, Writes}
use Rattle.xh_place.specs.Messages.{Gives, TakesAt}
use Rattle.xh_place.specs.declared.got.Taken.{Taken}

-- ---- blocks

abbrev pub DidAlloc : PartsOf → Leading → (p n arena : ℕ) → Result Block Refused → AccountOf → AccountOf → Type 0
DidAlloc parts leads p n arena result = Calls leads (place_of p) (call.Alloc p n arena result) (TakesBytes parts arena (rounded n) (arena ∷ []) (λ b. b.len) result)
    (λ from to. Allocates (status_at p from) (space_of parts) n arena from to result)

abbrev pub DidPut : PartsOf → Leading → ℕ → List ℕ → (arena : ℕ) → Result Block Refused → AccountOf → AccountOf → Type 0
DidPut parts leads p xs arena result = Calls leads (place_of p) (call.Put p xs arena result) (TakesBytes parts arena (rounded (length xs)) (arena ∷ []) (λ b. b.len) result)
    (λ from to. Makes (status_at p from) (space_of parts) (length xs) xs arena from to result)

-- no bytes were moved, by one call on the arena, or none where it was refused
abbrev pub DidSplit : Leading → (p r k : ℕ) → Result (Block × Block) Refused → AccountOf → AccountOf → Type 0
DidSplit leads p r k result = Calls leads (place_of p) (call.Split p r k result)
    (λ old new. (new.tallies ≡ old.tallies) × MatchResult result (λ _. Entered (r / MAX_RECORDS ∷ []) old.vaults new.vaults) (λ _. new.vaults ≡ old.vaults))
    (λ from to. Splits (status_at p from) r k from to result)

abbrev pub DidRead : Leading → (p r i : ℕ) → List ℕ → Result (Unit {0}) Refused → AccountOf → AccountOf → Type 0
DidRead leads p r i shown result = Calls leads (place_of p) (call.Read p r i shown result) IsStill (λ from to. Reads (status_at p from) r i shown from to result)

abbrev pub DidWrite : Leading → (p r i : ℕ) → List ℕ → Result (Unit {0}) Refused → AccountOf → AccountOf → Type 0
DidWrite leads p r i xs result = Calls leads (place_of p) (call.Write p r i xs result) IsStill (λ from to. Writes (status_at p from) r i xs from to result)

abbrev pub DidFree : Leading → (p r : ℕ) → Result ℕ Refused → AccountOf → AccountOf → Type 0
DidFree leads p r result = Calls leads (place_of p) (call.Free p r result) (GivesBytes (r / MAX_RECORDS) (λ n. n) result) (λ from to. FreesBlock (status_at p from) r from to result)

-- the bytes of the block are the answer
abbrev pub DidIntoBytes : Leading → (p r : ℕ) → Result (List ℕ) Refused → AccountOf → AccountOf → Type 0
DidIntoBytes leads p r result = Calls leads (place_of p) (call.IntoBytes p r result) (GivesBytes (r / MAX_RECORDS) length result)
    (λ from to. GivesUp (HasBytes r from.seat) (status_at p from) r from to result)

-- ---- messages

abbrev pub DidGive : Leading → (p e tag : ℕ) → List ℕ → Result ℕ Refused → AccountOf → AccountOf → Type 0
DidGive leads p e tag given result = Calls leads (place_of p) (call.Give p e tag given result) IsStill (λ from to. Gives (status_at p from) e tag given from to result)

abbrev pub DidTake : Leading → (p e : ℕ) → Result Taken Refused → AccountOf → AccountOf → Type 0
DidTake leads p e result = Calls leads (place_of p) (call.Take p e result) IsStill (λ from to. TakesAt (status_at p from) e from to result)

abbrev pub DidTakeAny : Leading → ℕ → List ℕ → Result AnsweredAt Refused → AccountOf → AccountOf → Type 0
DidTakeAny leads p ends result = Calls leads (place_of p) (call.TakeAny p ends result) IsStill (λ from to. TakesAny p ends from to result)

-- so many bytes came back
abbrev pub DidClose : Leading → (p e : ℕ) → Result ℕ Refused → AccountOf → AccountOf → Type 0
DidClose leads p e result old new = (bytes : ℕ) × Calls leads (place_of p) (call.Close p e bytes result) (HasBack bytes) (λ from to. Closes (status_at p from) e bytes from to result) old new
