-- A place and a till that a call works on, and how far the process has come that calls.
use Rattle.std.specs.Prelude.{◌≡◌, ℕ, ◌==◌, ◌≤◌, cond, List, length, Result, MatchResult}
use Rattle.xh_arena.specs.Views.{TallyOf}
use Rattle.xh_core.specs.declared.refused.Refused.{Refused}
use Rattle.xh_core.specs.declared.status.Status.{Status}
use Rattle.xh_core.specs.declared.status.Status.TheVariants.{Ended}
use Rattle.xh_core.specs.Statuses.{status_of}
use Rattle.xh_model.specs.Words.{generation_of}
use Rattle.xh_place.specs.Reclaiming.{HasGivenBack}
use Rattle.xh_place.specs.Places.{PlaceSeen}
use Rattle.xh_place.specs.Seen.{Stays}
use Rattle.xh_place.specs.Tallies.{ids_of}
use Rattle.xh_records.specs.History.{StartsWith}
use Rattle.xh_records.specs.Seats.{IsSeatOf}
use Rattle.xh_calls.specs.declared.heap.Till.{Till}
use Rattle.xh_calls.specs.Parts.{PartsOf}
use Rattle.xh_calls.specs.Vaults.{Entered, IsSeenOf}

-- the tallies of the till are of the vaults of these parts, and a worker of theirs has seen what it has of the histories of the arenas
abbrev pub IsTillOf : PartsOf → Till → Type 0
IsTillOf parts t = (ids_of t.tallies.items ≡ parts.records.shape.names) × IsSeenOf parts t.seen

-- so many bytes were given back by the tallies of the till, and no arena was asked more often than that
abbrev pub GivesBack : ℕ → Till → Till → Type 0
GivesBack bytes old new = HasGivenBack bytes old.tallies.items new.tallies.items × ((arenas : List ℕ) × Entered arenas old.seen new.seen × (length arenas ≤ bytes))

-- so many bytes came back to the till, of which this is so
abbrev pub ComesBack : Till → Till → (ℕ → Type 0) → Type 0
ComesBack old new does = (bytes : ℕ) × does bytes × GivesBack bytes old new

-- the till's tallies are what the answer of a call that went well makes of them; else they are as they were
abbrev pub TalliesBecome : {A : Type 0} → (A → List TallyOf → List TallyOf) → Till → Till → Result A Refused → Type 0
TalliesBecome does old new result = MatchResult result (λ a. new.tallies.items ≡ does a old.tallies.items) (λ _. new.tallies.items ≡ old.tallies.items)

-- the place's words were looked at, and then this was done
abbrev pub AfterLooks : PlaceSeen → PlaceSeen → (PlaceSeen → Type 0) → Type 0
AfterLooks old new does = (from : PlaceSeen) × Stays old from × StartsWith new.seat.front from.seat.front × does from

-- the place is of these parts, and so is the till
abbrev pub IsServed : PartsOf → PlaceSeen → Till → Type 0
IsServed parts p t = IsSeatOf parts.records p.seat × IsTillOf parts t

-- how far the process of this number has come, of which the place knows its latest alone: Vacant where there is no such process yet
abbrev pub status_at : ℕ → PlaceSeen → Status
status_at process p = status_of process (generation_of p.seat.process) (cond (p.seat.process == process) p.state Ended)
