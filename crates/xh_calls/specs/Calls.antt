-- What a start and a look do to a place, and what the calls of a process find of space. What the other calls of a process do, the relations of xh_place say.
use Rattle.std.specs.Prelude.{◌≡◌, ℕ, true, false, length, Option, Result, MatchOption}
use Rattle.xh_arena.specs.Refusals.{RefusesCarve}
use Rattle.xh_arena.specs.Views.{VaultOf}
use Rattle.xh_core.specs.Calls.{start}
use Rattle.xh_core.specs.Refusing.{Tested}
use Rattle.xh_core.specs.Statuses.{can_start}
use Rattle.xh_core.specs.declared.refused.Refused.{Refused}
use Rattle.xh_model.specs.Arena.{IsLawfulArena}
use Rattle.xh_model.specs.Words.{generation_of}
use Rattle.xh_place.specs.Calls.{SpaceOf}
use Rattle.xh_place.specs.Places.{PlaceSeen, started}
use Rattle.xh_place.specs.Seen.{Stays}
use Rattle.xh_calls.specs.Parts.{PartsOf, IsVaultOf}
use Rattle.xh_calls.specs.Places.{status_at}

-- the next process runs now at the place, which is used so often; or none can start there
abbrev pub Spawns : ℕ → PlaceSeen → PlaceSeen → Option ℕ → Type 0
Spawns generations old new result = MatchOption result ((can_start generations old.state (generation_of old.seat.process) ≡ false) × Stays old new)
    (λ p. (can_start generations old.state (generation_of old.seat.process) ≡ true) × Stays (started old) new × (p ≡ new.seat.process))

-- whether the process runs there
abbrev pub Looks : ℕ → PlaceSeen → PlaceSeen → Result (Unit {0}) Refused → Type 0
Looks p old new result = Stays old new × Tested (start (status_at p old)) result (λ _. Unit {0})

-- the arenas of these parts. That some lawful vault of the arena refuses is all that an entry of a place's history says; that it is the one which the call found under its lock, the histories of
-- the arenas say
abbrev pub space_of : PartsOf → SpaceOf
space_of parts = record {
  arenas = length parts.records.shape.names;
  size = parts.size;
  refuses = λ a n why. (v : VaultOf) × IsVaultOf parts a v × IsLawfulArena v.arena × RefusesCarve n v.arena why;
}
