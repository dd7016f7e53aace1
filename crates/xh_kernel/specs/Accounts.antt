-- What contracts see of an account, and what calls do to it.
use Rattle.std.specs.Prelude.{◌≡◌, ℕ, ◌<◌, ◌≤◌, List, [], ◌∷◌, map, replicate, slice_index_or, length, Option, Some, None, Result, MatchResult}
use Rattle.xh_arena.specs.Views.{TallyOf, VaultOf}
use Rattle.xh_calls.specs.Parts.{PartsOf}
use Rattle.xh_calls.specs.Tallies.{fresh_tally}
use Rattle.xh_calls.specs.Vaults.{AsksVault, Entered}
use Rattle.xh_core.specs.declared.refused.Refused.{Refused}
use Rattle.xh_history.specs.Histories.{FrontOf, History, LookOf, fresh_front}
use Rattle.xh_calls.specs.declared.call.Entry.{Entry}
use Rattle.xh_model.specs.declared.limits.TheConstants.{PLACES}
use Rattle.xh_place.specs.Reclaiming.{HasGivenBack}
use Rattle.xh_place.specs.Tallies.{took, gave}

-- a worker's number, its tallies by arena, what it has seen of the histories of the places, by place, how often it looked at one, and what it has seen of those of the arenas
pub record AccountOf : Type 0 where
  pub number : ℕ
  pub tallies : List TallyOf
  pub fronts : List (History Entry)
  pub looks : ℕ
  pub vaults : FrontOf VaultOf

-- what the worker of a kernel of these parts has seen of the places, as a look of it has
abbrev pub look_of : PartsOf → AccountOf → LookOf Entry
look_of parts a = record { table = parts.histories; fronts = a.fronts; looks = a.looks }

-- what a tally has taken and given back
abbrev pub moved_of : Option TallyOf → Option (ℕ × ℕ)
moved_of None = None
moved_of (Some t) = Some (t.taken, t.back)

-- ---- the bytes that a call took and gave back, arena by arena, and the calls on arenas that it made

-- no bytes were moved, and no arena was asked
abbrev pub IsStill : AccountOf → AccountOf → Type 0
IsStill old new = (new.tallies ≡ old.tallies) × (new.vaults ≡ old.vaults)

-- so many bytes of the arena, by the answer, were taken, by calls on these; or none, and want of space is what the arena's vault answered when it was asked for n bytes
abbrev pub TakesBytes : PartsOf → (arena n : ℕ) → List ℕ → {A : Type 0} → (A → ℕ) → Result A Refused → AccountOf → AccountOf → Type 0
TakesBytes parts arena n arenas size result old new = MatchResult result
    (λ a. (new.tallies ≡ took arena (size a) old.tallies) × Entered arenas old.vaults new.vaults)
    (λ why. (new.tallies ≡ old.tallies) × AsksVault parts arena n old.vaults new.vaults why)

-- so many bytes of the arena, by the answer, were given back, by one call on it, which there is
abbrev pub GivesBytes : ℕ → {A : Type 0} → (A → ℕ) → Result A Refused → AccountOf → AccountOf → Type 0
GivesBytes arena size result old new = MatchResult result
    (λ a. (new.tallies ≡ gave arena (size a) old.tallies) × (arena < length old.tallies) × Entered (arena ∷ []) old.vaults new.vaults) (λ _. IsStill old new)

-- so many bytes were given back, of each arena some or none, and no others moved, by no more calls on arenas
abbrev pub HasBack : ℕ → AccountOf → AccountOf → Type 0
HasBack bytes old new = HasGivenBack bytes old.tallies new.tallies × ((arenas : List ℕ) × Entered arenas old.vaults new.vaults × (length arenas ≤ bytes))

-- ---- new accounts

-- the account of the worker k of a kernel of these parts, with nothing taken and nothing seen
abbrev pub fresh : PartsOf → ℕ → AccountOf
fresh parts k = record { number = k; tallies = map (fresh_tally k) parts.records.shape.names; fronts = replicate PLACES []; looks = 0; vaults = fresh_front parts.vaults k }

-- the accounts of the workers 0, 1, .., in order
abbrev pub AreFresh : PartsOf → List AccountOf → Type 0
AreFresh parts all = (k : ℕ) (d : AccountOf) → k < length all → slice_index_or all k d ≡ fresh parts k
