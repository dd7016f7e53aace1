-- A new machine, the commands spawn, glance and ledger, and what is in flight.
use Rattle.std.specs.Prelude.{ℕ, ◌+◌, ◌*◌, ◌==◌, Bool, cond, List, [], ◌∷◌, Option, Some, None, length, map, ok_or, replicate, nat_le, slice_set, slice_index_or, Result, Ok, Err}
use Rattle.std.specs.List.{position, sum_by}
use Rattle.xh_model.specs.declared.limits.TheConstants.{CHANNELS, DIRECTIONS, MAX_RECORDS, PLACES, USUAL_GENERATIONS}
use Rattle.xh_model.specs.declared.config.Config.{Config}
use Rattle.xh_model.specs.Store.{Store, len, all_out, new_store}
use Rattle.xh_core.specs.declared.flight.FlightLine.{FlightLine}
use Rattle.xh_core.specs.declared.glance.Glance.{Glance}
use Rattle.xh_core.specs.declared.ledger.PlaceLine.{PlaceLine}
use Rattle.xh_core.specs.declared.ledger.Ledger.{Ledger}
use Rattle.xh_serial.specs.declared.line.Line.{Line}
use Rattle.xh_serial.specs.declared.place.Place.{Place}
use Rattle.xh_core.specs.declared.refused.Refused.{Refused}
use Rattle.xh_core.specs.declared.refused.Refused.TheVariants.{NoProcess, NoPlace}
use Rattle.xh_core.specs.declared.status.Status.TheVariants.{Running}
use Rattle.xh_serial.specs.Lines.{carried, no_line}
use Rattle.xh_serial.specs.Machine.{Machine, blank, no_place}
use Rattle.xh_core.specs.Glances.{line_of}
use Rattle.xh_core.specs.Statuses.{can_start, is_vacant}
use Rattle.xh_serial.specs.Commands.{Answer}
use Rattle.xh_core.specs.ArenaLines.{arena_line}

-- no process, no channel, and no record held
unfoldable pub new_machine : Config → Machine
new_machine c = record {
  store = new_store c;
  bodies = replicate (MAX_RECORDS * c.arenas) (blank None);
  places = replicate PLACES no_place;
  lines = replicate DIRECTIONS no_line;
  contracts = replicate CHANNELS None;
  opened = 0;
  depth = c.depth;
}

-- ---- spawn

abbrev pub is_ready : Place → Bool
is_ready place = can_start USUAL_GENERATIONS place.status place.generation

-- the place with its next process
abbrev pub serial_started : Place → Place
serial_started place = record place { status = Running; generation = cond (is_vacant place.status) place.generation (place.generation + 1) }

-- a process starts at the place k, if there is one: its number, and the places then
abbrev pub started_at : Option ℕ → List Place → Option ℕ × List Place
started_at None places = (None, places)
started_at (Some k) places =
    let place : Place = serial_started (slice_index_or places k no_place) in
    (Some (k + PLACES * place.generation), slice_set places k place)

-- a process starts at the lowest place where one can: its number
unfoldable pub spawn : Machine → Answer ℕ
spawn m =
    let next : Option ℕ × List Place = started_at (position is_ready m.places) m.places in
    (ok_or next.0 NoPlace, record m { places = next.1 })

-- ---- glance

-- the bytes of a list
abbrev pub total : Store → List ℕ → ℕ
total s rs = sum_by (λ r. len s r) rs

abbrev pub serial_glance : ℕ → Place → Store → Glance
serial_glance k place s = record {
  process = k + PLACES * place.generation;
  state = place.status;
  blocks = length place.blocks.items;
  bytes = total s place.blocks.items;
}

unfoldable pub glance : ℕ → Machine → Result Glance Refused
glance k m = cond (nat_le PLACES k) (Err NoProcess) (Ok (serial_glance k (slice_index_or m.places k no_place) m.store))

-- ---- ledger

-- the places from number k on, each that is not vacant
abbrev pub serial_places : Store → ℕ → List Place → List PlaceLine
serial_places s k [] = []
serial_places s k (place ∷ places) = cond (is_vacant place.status) (serial_places s (k + 1) places) (line_of (serial_glance k place s) ∷ serial_places s (k + 1) places)

unfoldable pub ledger_of : Machine → Ledger
ledger_of m = record {
  arenas = record { items = map arena_line m.store.arenas };
  places = record { items = serial_places m.store 0 m.places };
  owned = sum_by (λ place. total m.store place.blocks.items) m.places;
  flight = sum_by (λ line. total m.store (carried line.waiting.items)) m.lines;
  out = all_out m.store;
}

-- ---- flight

-- the line of a direction on which these records wait
abbrev pub serial_flight : Store → ℕ → List ℕ → FlightLine
serial_flight s d rs = record { direction = d; blocks = length rs; bytes = total s rs }

-- the directions from number d on, each on which records wait
abbrev pub serial_flights : Store → ℕ → List Line → List FlightLine
serial_flights s d [] = []
serial_flights s d (line ∷ lines) =
    let rs : List ℕ = carried line.waiting.items in
    cond (length rs == 0) (serial_flights s (d + 1) lines) (serial_flight s d rs ∷ serial_flights s (d + 1) lines)

unfoldable pub flight_of : Machine → List FlightLine
flight_of m = serial_flights m.store 0 m.lines
