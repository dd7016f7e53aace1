-- What is in flight when the books are closed, direction by direction.
use Rattle.std.specs.Prelude.{◌≡◌, ℕ, ◌==◌, ◌<◌, false, cond, count_by, filter, List, All, Any, IsSomeAnd, length, map, nat_lt, replicate, slice_get, Option, Some, None}
use Rattle.std.specs.List.{range_with_len, sum_by, zip}
use Rattle.xh_core.specs.declared.flight.FlightLine.{FlightLine}
use Rattle.xh_model.specs.declared.event.Event.{Event}
use Rattle.xh_model.specs.declared.event.Holder.{Holder}
use Rattle.xh_model.specs.declared.event.Holder.TheVariants.{Process, Direction}
use Rattle.xh_model.specs.declared.limits.TheConstants.{DIRECTIONS}
use Rattle.xh_model.specs.Keyed.{Among, value_at}
use Rattle.xh_model.specs.Words.{IsHeldBy, Ownership, number_of, place_of, process_of, word_of}
use Rattle.xh_place.specs.declared.body.Body.{Body}
use Rattle.xh_place.specs.Places.{Item, PlaceSeen}
use Rattle.xh_records.specs.declared.shape.Shape.{Shape}
use Rattle.xh_arena.specs.Views.{LotOf}
use Rattle.xh_records.specs.Deeds.{Arrives, Deed, IsLeft, deeds_by, events}
use Rattle.xh_records.specs.History.{LeadsTo, StartsWith}
use Rattle.xh_books.specs.Ledgers.{blocks_of, is_listed}

-- ---- the lines, of all records, each given by the word of its holder and its length

-- the line of a direction: how many records are on it, and how many bytes these have
abbrev pub flight_line : List (ℕ × ℕ) → ℕ → FlightLine
flight_line all d = record {
  direction = d;
  blocks = count_by (λ r. r.0 == word_of (Some (Direction d))) all;
  bytes = sum_by (λ r. cond (r.0 == word_of (Some (Direction d))) r.1 0) all;
}

-- the lines of the directions that have a record, in their order
abbrev pub flight_lines : List (ℕ × ℕ) → List FlightLine
flight_lines all = filter (λ l. nat_lt 0 l.blocks) (map (flight_line all) (range_with_len 0 DIRECTIONS))

-- ---- whose they are

-- Where the record r, of n bytes, stands by its holder: a free one has no bytes and is in no list; that of a process has bytes, and is a block of so many in the process's list; one in flight
-- has bytes and is in no list.
abbrev pub Stands : List PlaceSeen → ℕ → ℕ → Option Holder → Type 0
Stands places r n None = (n ≡ 0) × (is_listed r places ≡ false)
Stands places r n (Some (Process p)) = (0 < n) × Any (λ q. (q.seat.process ≡ p) × IsSomeAnd (value_at r (blocks_of q)) (λ x. x.len ≡ n)) places
Stands places r n (Some (Direction d)) = (0 < n) × (is_listed r places ≡ false)

-- These lines are what is in flight, of records that have these lengths. There is one log of all deeds on records, each by a process of these places; each place has seen a beginning of it,
-- in which all deeds of its own processes stand. It leads from where all records are free to the owners by which each record stands where it does; the lines are these owners'.
-- What arrives is what was given: whatever was accepted, or is in flight, is as the last pass of its record left it. It is quiet: whatever a process or a direction has has bytes.
pub record IsInFlight (s : Shape) (places : List PlaceSeen) (lengths : List ℕ) (lines : List FlightLine) : Type 0 where
  pub log : List (Deed Body)
  pub theirs : (e : Event) → Among (events log) e → place_of (process_of e) < s.places
  pub seen : All (λ p. StartsWith log p.seat.front × (deeds_by (place_of p.seat.process) p.seat.front ≡ deeds_by (place_of p.seat.process) log)) places
  pub owners : Ownership
  pub count : length owners ≡ length lengths
  pub leads : LeadsTo s.records (replicate (length owners) None) (events log) owners
  pub arrives : Arrives log
  pub passed : (k d : ℕ) → IsHeldBy owners k (Some (Direction d)) → (l : LotOf Body) × (slice_get lengths k ≡ Some l.len) × IsLeft log (number_of s.records k) d l
  pub quiet : (k n : ℕ) (h : Option Holder) → slice_get lengths k ≡ Some n → IsHeldBy owners k h → Stands places (number_of s.records k) n h
  pub full : All (λ p. (r : ℕ) (x : Item) → value_at r (blocks_of p) ≡ Some x → 0 < x.len) places
  pub lines_are : lines ≡ flight_lines (zip (map word_of owners) lengths)
