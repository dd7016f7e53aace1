-- Owner words: what a word says of who holds its record, and what an event does to who holds which.
use Rattle.std.specs.Prelude.{◌≡◌, ℕ, ◌+◌, ◌*◌, ◌/◌, ◌%◌, ◌<◌, List, Option, Some, None, slice_set}
use mathlib.Core.Option.{some}
use lib.ListN.{get_elem?}
use Rattle.xh_model.specs.declared.event.Holder.{Holder}
use Rattle.xh_model.specs.declared.event.Holder.TheVariants.{Process, Direction}
use Rattle.xh_model.specs.declared.event.Event.{Event}
use Rattle.xh_model.specs.declared.event.Event.TheVariants.{Claim, Carve, Cut, GiveBack, Vacate, Pass, Accept}
use Rattle.xh_model.specs.Slots.{index_of}
use Rattle.xh_model.specs.declared.limits.TheConstants.{MAX_RECORDS, PLACES, PROCESSES, DIRECTIONS}

-- the word of a record that is free, owned by a process, or in flight on a direction
abbrev pub word_of : Option Holder → ℕ
word_of None = 0
word_of (Some (Process p)) = 1 + 4 * p
word_of (Some (Direction d)) = 2 + 4 * d

-- the number of a process, or of a direction, is one that there is
abbrev pub IsHolder : Option Holder → Type 0
IsHolder None = Unit {0}
IsHolder (Some (Process p)) = p < PROCESSES
IsHolder (Some (Direction d)) = d < DIRECTIONS

-- the word says something: it is that of some holder
abbrev pub IsWord : ℕ → Type 0
IsWord word = (h : Option Holder) × IsHolder h × (word ≡ word_of h)

-- a process number is a place and a generation
abbrev pub place_of : ℕ → ℕ
place_of p = p % PLACES

abbrev pub generation_of : ℕ → ℕ
generation_of p = p / PLACES

-- the number of the record at an index, with n records in an arena
abbrev pub number_of : ℕ → ℕ → ℕ
number_of n k = (k / n) * MAX_RECORDS + k % n

-- the holder of each record that there is, in the order of the records; a record with none is free
abbrev pub Ownership : Type 0
Ownership = List (Option Holder)

abbrev pub IsHeldBy : Ownership → ℕ → Option Holder → Type 0
IsHeldBy o k h = get_elem? o k ≡ some h

-- the record of an event
abbrev pub record_of : Event → ℕ
record_of (Claim p r) = r
record_of (Carve p r n) = r
record_of (Cut p r t k) = r
record_of (GiveBack p r) = r
record_of (Vacate p r) = r
record_of (Pass p r d) = r
record_of (Accept p r d) = r

-- the process of an event
abbrev pub process_of : Event → ℕ
process_of (Claim p r) = p
process_of (Carve p r n) = p
process_of (Cut p r t k) = p
process_of (GiveBack p r) = p
process_of (Vacate p r) = p
process_of (Pass p r d) = p
process_of (Accept p r d) = p

-- who holds the record before the event, and after it
abbrev pub from_of : Event → Option Holder
from_of (Claim p r) = None
from_of (Accept p r d) = Some (Direction d)
from_of e = Some (Process (process_of e))

abbrev pub to_of : Event → Option Holder
to_of (Vacate p r) = None
to_of (Pass p r d) = Some (Direction d)
to_of e = Some (Process (process_of e))

-- with n records in an arena, the event is done on who holds which
abbrev pub IsDone : ℕ → Ownership → Event → Ownership → Type 0
IsDone n o e o' = IsHeldBy o (index_of n (record_of e)) (from_of e) × (o' ≡ slice_set o (index_of n (record_of e)) (to_of e))
