-- What a kernel's lock knows of a place, and what it has told of it.
use Rattle.std.specs.Prelude.{◌≡◌, ℕ, ◌<◌, true, length, option_map, unwrap_or}
use Rattle.xh_calls.specs.declared.call.Entry.{Entry}
use Rattle.xh_core.specs.declared.glance.Glance.{Glance}
use Rattle.xh_core.specs.Statuses.{is_over}
use Rattle.xh_history.specs.Histories.{History, PenOf, last_of}
use Rattle.xh_kernel.specs.Words.{vacant}
use Rattle.xh_model.specs.declared.limits.TheConstants.{GENERATIONS}
use Rattle.xh_model.specs.Words.{generation_of, place_of}
use Rattle.xh_place.specs.Places.{AreBlocks, PlaceSeen, glance_of}
use Rattle.xh_records.specs.Seats.{IsSeatOf}
use Rattle.xh_calls.specs.Parts.{PartsOf}

-- its process is one of those there can be there, each record stands once in its list, each block is whole, and it has none where its process is over
pub record IsSoundPlace (p : PlaceSeen) : Type 0 where
  pub process : generation_of p.seat.process < GENERATIONS
  pub blocks : ∥ AreBlocks p ∥₁
  pub none : is_over p.state ≡ true → length p.list ≡ 0

-- a lawful place of these parts
abbrev pub IsFound : PartsOf → PlaceSeen → Type 0
IsFound parts p = IsSeatOf parts.records p.seat × IsSoundPlace p

-- what the place k is after the last call of its history, to those who look
abbrev pub last_glance : ℕ → History Entry → Glance
last_glance k h = unwrap_or (option_map (λ c. c.1.glance) (last_of h)) (vacant k)

-- the pen is the place's own, and the last glance of its history is what the place is now
pub record IsLastTold (p : PlaceSeen) (pen : PenOf Entry) : Type 0 where
  pub number : place_of p.seat.process ≡ pen.number
  pub last : last_glance pen.number pen.history ≡ glance_of p
