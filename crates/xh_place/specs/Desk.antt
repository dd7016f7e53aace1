-- What a call of a place needs besides its own words, as one value.
use Rattle.std.specs.Prelude.{◌≡◌, ℕ, List}
use Rattle.atomic_table.specs.Seated.{TableId}
use Rattle.xh_records.specs.Seats.{Held}
use Rattle.xh_place.specs.declared.body.Body.{Body}
use Rattle.xh_place.specs.declared.desk.Desk.{Desk}
use Rattle.xh_place.specs.Places.{PlaceSeen}
use Rattle.xh_place.specs.Seen.{IsSamePlace}

-- `names` says what the vaults' names are, and `extent` the bytes of each
module _ {R V G : Type 0} (names : V → List TableId) where
  -- the desk's records gave the seat, and the vaults are those of its arenas
  abbrev pub IsSeatAt : Desk R V G → Held Body → Type 0
  IsSeatAt desk seat = ((seat.table ≡ desk.records.now.table) × (seat.shape ≡ desk.records.now.shape)) × (names desk.vaults ≡ seat.shape.names)

  -- the same desk, with the same vaults, whatever they hold now
  abbrev pub IsSameDesk : (V → ℕ) → Desk R V G → Desk R V G → Type 0
  IsSameDesk extent old new = (names new.vaults ≡ names old.vaults) × (extent new.vaults ≡ extent old.vaults) × (new.records ≡ old.records)

  -- so is the place the same, and its process
  abbrev pub StaysAt : (V → ℕ) → Desk R V G → Desk R V G → PlaceSeen → PlaceSeen → Type 0
  StaysAt extent from to old new = IsSameDesk extent from to × IsSamePlace old new
