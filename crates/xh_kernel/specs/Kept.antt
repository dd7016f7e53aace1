-- What stands behind the lock of a place.
use Rattle.std.specs.Prelude.{◌≡◌, List}
use Rattle.std.specs.List.{AllZip}
use Rattle.xh_calls.specs.declared.call.Entry.{Entry}
use Rattle.xh_calls.specs.Parts.{PartsOf}
use Rattle.xh_history.specs.Histories.{PenOf}
use Rattle.xh_kernel.specs.Histories.{IsHistoryOf}
use Rattle.xh_kernel.specs.Places.{IsFound, IsLastTold}
use Rattle.xh_place.specs.Places.{PlaceSeen}

-- a lawful place of these parts, the pen of its history, and the history
pub record IsKeptPlace (parts : PartsOf) (p : PlaceSeen) (pen : PenOf Entry) : Type 0 where
  pub found : IsFound parts p
  pub own : pen.table ≡ parts.histories
  pub told : IsLastTold p pen
  pub history : IsHistoryOf parts pen.number pen.history p

-- the same of each place, and the pen beside it
abbrev pub AreKept : PartsOf → List PlaceSeen → List (PenOf Entry) → Type 0
AreKept parts = AllZip (IsKeptPlace parts)
