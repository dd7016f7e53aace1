-- To which places the calls of a place's history lead: by the place's number, the history, and a place.
use Rattle.std.specs.Prelude.{ℕ}
use Rattle.xh_calls.specs.declared.call.Entry.{Entry}
use Rattle.xh_history.specs.Histories.{History}
use Rattle.xh_place.specs.Places.{PlaceSeen}

abbrev pub Leading : Type 1
Leading = ℕ → History Entry → PlaceSeen → Type 0
