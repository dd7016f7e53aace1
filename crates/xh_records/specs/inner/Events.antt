-- Which event a step is that takes a record or gives it away, which lot goes along, and what a seat is after it.
use Rattle.std.specs.Prelude.{◌≡◌, ℕ, Bool, List, Option, Some, None}
use Rattle.xh_arena.specs.Views.{LotOf}
use Rattle.xh_model.specs.declared.event.Holder.{Holder}
use Rattle.xh_model.specs.declared.event.Holder.TheVariants.{Process, Direction}
use Rattle.xh_model.specs.declared.event.Event.{Event}
use Rattle.xh_model.specs.declared.event.Event.TheVariants.{Claim, Vacate, Pass, Accept}
use Rattle.xh_records.specs.Deeds.{Deed}
use Rattle.xh_records.specs.Seats.{Held}
use Rattle.xh_records.specs.Showing.{IsEmpty, IsFull}

-- the process p takes the record r from where it is, or gives it there
abbrev pub taking : ℕ → ℕ → Option Holder → Event
taking p r None = Claim p r
taking p r (Some (Process q)) = Claim p r
taking p r (Some (Direction d)) = Accept p r d

abbrev pub giving : ℕ → ℕ → Option Holder → Event
giving p r None = Vacate p r
giving p r (Some (Process q)) = Vacate p r
giving p r (Some (Direction d)) = Pass p r d

-- no process holds it
abbrev pub IsAway : Option Holder → Type 0
IsAway h = (p : ℕ) → h ≡ Some (Process p) → ⊥

-- a lot is at home where its record is free, and then it is empty, or in flight, and then it is full
abbrev pub IsHomeLot : {B : Type 0} → (B → ℕ → Bool) → Option Holder → LotOf B → Type 0
IsHomeLot fits None l = IsEmpty fits l
IsHomeLot fits (Some (Process p)) l = ⊥
IsHomeLot fits (Some (Direction d)) l = IsFull fits l

-- the seat that has seen so much
abbrev pub seen : {B : Type 0} → List (Deed B) → Held B → Held B
seen front x = record x { front = front }
