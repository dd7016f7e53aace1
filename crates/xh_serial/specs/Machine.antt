-- The serial machine as a value, and what always holds of it.
use Rattle.std.specs.Prelude.{◌≡◌, ℕ, ◌*◌, ◌/◌, ◌%◌, ◌<◌, ◌≤◌, ◌==◌, Bool, true, false, cond, List, [], ◌∷◌, ◌++◌, Option, Some, None, is_some, length, slice_set, slice_index_or}
use Rattle.xh_model.specs.declared.limits.TheConstants.{CHANNELS, DIRECTIONS, MAX_DEPTH, PLACES, USUAL_GENERATIONS}
use Rattle.xh_model.specs.declared.event.Holder.{Holder}
use Rattle.xh_model.specs.declared.event.Holder.TheVariants.{Process, Direction}
use Rattle.xh_model.specs.declared.row.Row.{Row}
use Rattle.xh_model.specs.Rows.{IsValid, InStep}
use Rattle.xh_model.specs.Store.{Store, owner, len, holds, IsLawful, HasLengths}
use Rattle.xh_serial.specs.declared.message.Message.{Message}
use Rattle.xh_serial.specs.declared.place.Place.{Place}
use Rattle.xh_serial.specs.declared.line.Line.{Line}
use Rattle.xh_serial.specs.Lines.{IsNumbered, contract_of, line, no_line, peer, tags_of, way_in}
use Rattle.xh_core.specs.declared.status.Status.{Status}
use Rattle.xh_core.specs.declared.status.Status.TheVariants.{Vacant}
use Rattle.xh_core.specs.Several.{times}
use Rattle.xh_core.specs.Statuses.{is_over, status_of}

-- The direction toward a record, where it is an endpoint, and its bytes, where it is a data block.
pub record BodyOf : Type 0 where
  pub end : Option ℕ
  pub bytes : List ℕ

-- Who holds each record, and the arenas; by record its body; the places; the directions; by channel its contract, where it has one;
-- how many channels were opened; how many messages may wait in a direction.
pub record Machine : Type 0 where
  pub store : Store
  pub bodies : List BodyOf
  pub places : List Place
  pub lines : List Line
  pub contracts : List (Option (List Row))
  pub opened : ℕ
  pub depth : ℕ

-- ---- records

-- a record without bytes
abbrev pub blank : Option ℕ → BodyOf
blank end = record { end = end; bytes = [] }

abbrev pub body : List BodyOf → ℕ → BodyOf
body bodies r = slice_index_or bodies r (blank None)

-- a record has other bytes
abbrev pub refilled : ℕ → List ℕ → List BodyOf → List BodyOf
refilled r bytes bodies = slice_set bodies r (record (body bodies r) { bytes = bytes })

-- the direction toward the endpoint r
abbrev pub end_of : Machine → ℕ → Option ℕ
end_of m r = (body m.bodies r).end

-- the bytes of the data block r
abbrev pub buffer : Machine → ℕ → List ℕ
buffer m r = (body m.bodies r).bytes

-- ---- places

abbrev pub no_place : Place
no_place = record { blocks = record { items = [] }; status = Vacant; generation = 0 }

-- the place of a process, by the process's number
abbrev pub place : List Place → ℕ → Place
place places p = slice_index_or places (p % PLACES) no_place

-- whether the process is the latest of its place
abbrev pub is_current : Machine → ℕ → Bool
is_current m p = (place m.places p).generation == (p / PLACES)

-- the records that a process holds, in the order gained
abbrev pub blocks : Machine → ℕ → List ℕ
blocks m p = cond (is_current m p) (place m.places p).blocks.items []

-- how far a process has come; Vacant where there is no such process
abbrev pub serial_status : Machine → ℕ → Status
serial_status m p = status_of p (place m.places p).generation (place m.places p).status

-- the place of a process has another list, or another status
abbrev pub relisted : ℕ → List ℕ → List Place → List Place
relisted p rs places = slice_set places (p % PLACES) (record (place places p) { blocks = record { items = rs } })

-- a record goes to the end of a list
abbrev pub with_last : ℕ → ℕ → List Place → List Place
with_last p r places = relisted p ((place places p).blocks.items ++ r ∷ []) places

abbrev pub restated : ℕ → Status → List Place → List Place
restated p s places = slice_set places (p % PLACES) (record (place places p) { status = s })

-- ---- directions

-- the messages that wait in a direction, front first
abbrev pub waiting : Machine → ℕ → List Message
waiting m d = (line m.lines d).waiting.items

abbrev pub on_way : Machine → ℕ → List ℕ
on_way m d = way_in m.lines (Some d)

-- the records in the messages on their way to the endpoint r; none where r is no endpoint
abbrev pub arriving : Machine → ℕ → List ℕ
arriving m r = way_in m.lines (end_of m r)

-- the records listed for a holder
abbrev pub listed : Machine → Holder → List ℕ
listed m (Process p) = blocks m p
listed m (Direction d) = on_way m d

-- ---- what always holds

-- the end that a direction leads to goes by the contract of its channel, if it has one, together with its peer
abbrev pub AreWired : List (Option (List Row)) → List Line → Type 0
AreWired contracts lines = (d : ℕ) (rows : List Row) → contract_of contracts d ≡ Some rows →
    IsValid rows × InStep rows (d % 2) (line lines d).state (tags_of (line lines d).waiting.items) (line lines (peer d)).state (tags_of (line lines (peer d)).waiting.items)

-- an endpoint has a holder, its channel was opened, and no other endpoint is at its direction
pub record IsEndRecord (m : Machine) (r d : ℕ) : Type 0 where
  pub held : is_some (owner m.store r) ≡ true
  pub opened : d < 2 * m.opened
  pub alone : (q : ℕ) → end_of m q ≡ Some d → q ≡ r

-- a place is used no more often than it can be, and one that is vacant or whose process has ended lists nothing
pub record ArePlaces (places : List Place) : Type 0 where
  pub long : length places ≡ PLACES
  pub generations : (p : ℕ) → (place places p).generation < USUAL_GENERATIONS
  pub idle : (p : ℕ) → is_over (place places p).status ≡ true → (place places p).blocks.items ≡ []

-- a channel that was not opened is as new; waiting messages have consecutive numbers; under a contract both ends are in step
pub record AreChannels (lines : List Line) (contracts : List (Option (List Row))) (opened : ℕ) : Type 0 where
  pub long : length lines ≡ DIRECTIONS
  pub fresh : (d : ℕ) → 2 * opened ≤ d → line lines d ≡ no_line
  pub numbered : (d : ℕ) → IsNumbered (line lines d)
  pub contracts_long : length contracts ≡ CHANNELS
  pub wired : AreWired contracts lines
  pub few : opened ≤ CHANNELS

-- a direction that is shut holds no message, and one that was opened and isn't shut has its end
pub record HaveEnds (end : ℕ → Option ℕ) (lines : List Line) (opened : ℕ) : Type 0 where
  pub drained : (d : ℕ) → (line lines d).shut ≡ true → (line lines d).waiting.items ≡ []
  pub there : (d : ℕ) → d < 2 * opened → (line lines d).shut ≡ false → (e : ℕ) × (end e ≡ Some d)

-- each record stands once in its holder's list and in no other; each held record has bytes; a data block has as many bytes as its length
pub record IsWhole (m : Machine) : Type 0 where
  pub store : IsLawful m.store
  pub once : (h : Holder) (r : ℕ) → times r (listed m h) ≡ cond (holds m.store h r) 1 0
  pub full : HasLengths m.store
  pub bodies : length m.bodies ≡ length m.store.owners
  pub ends : (r d : ℕ) → end_of m r ≡ Some d → IsEndRecord m r d
  pub bytes : (r : ℕ) → length (buffer m r) ≡ cond (is_some (end_of m r)) 0 (len m.store r)
  pub places : ArePlaces m.places
  pub channels : AreChannels m.lines m.contracts m.opened
  pub reached : HaveEnds (end_of m) m.lines m.opened
  pub deep : m.depth ≤ MAX_DEPTH
