-- A seat and the table, as contracts see them, and what the calls do to a seat.
use Rattle.std.specs.Prelude.{◌≡◌, ℕ, ◌+◌, ◌*◌, ◌/◌, ◌%◌, ◌<◌, ◌≢◌, ◌↔◌, Bool, List, [], ◌∷◌, ◌++◌, map, length, replicate, slice_get, slice_index, Some, None, Option}
use Rattle.atomic_table.specs.Seated.{TableId}
use Rattle.xh_arena.specs.Views.{LotOf}
use Rattle.xh_model.specs.declared.event.Holder.{Holder}
use Rattle.xh_model.specs.declared.event.Holder.TheVariants.{Process, Direction}
use Rattle.xh_model.specs.declared.event.Event.{Event}
use Rattle.xh_model.specs.declared.limits.TheConstants.{MAX_RECORDS}
use Rattle.xh_model.specs.Slots.{index_of}
use Rattle.xh_model.specs.Words.{Ownership, IsHeldBy, IsHolder, IsWord, process_of, record_of, word_of, number_of, place_of}
use Rattle.xh_model.specs.Keyed.{Among, keys, value_at, without}
use Rattle.xh_records.specs.declared.shape.Shape.{Shape}
use Rattle.xh_records.specs.Showing.{IsLotOf, IsLotAt, IsEmpty, IsFull}
use Rattle.xh_records.specs.Deeds.{Adds, Arrives, Deed, IsLast, IsLeft, deeds_by, events}
use Rattle.xh_records.specs.History.{LeadsTo, StartsWith, TellsWord}

-- the table of all records
pub record RecordsOf : Type 0 where
  pub table : TableId
  pub shape : Shape

-- a seat: its table, its number there, the process that it stands for, the lots of the records that the process owns, each beside its record's number, in the order gained, and its front: the
-- beginning of the one log of all deeds that it has seen, with all deeds of its own place. (That each step is its event rests on this list: a step's own rule doesn't see the whole state,
-- so a clause over every state in which the rule holds would bind no step.)
pub record Held (B : Type 0) : Type 0 where
  pub table : TableId
  pub id : ℕ
  pub shape : Shape
  pub process : ℕ
  pub lots : List (ℕ × LotOf B)
  pub front : List (Deed B)

-- the table gave this seat
abbrev pub IsSeatOf : {B : Type 0} → RecordsOf → Held B → Type 0
IsSeatOf all x = (x.table ≡ all.table) × (x.shape ≡ all.shape)

-- the name of no table
abbrev pub no_table : TableId
no_table = record { words = 0; slots = 0; views_name = 0; atom = 0; block = 0; offset = 0; slot_names = [] }

-- there is such a record
abbrev pub IsRecord : Shape → ℕ → Type 0
IsRecord s r = (r / MAX_RECORDS < length s.names) × (r % MAX_RECORDS < s.records)

-- the seat with these lots
abbrev pub with_lots : {B : Type 0} → Held B → List (ℕ × LotOf B) → Held B
with_lots x l = record x { lots = l }

-- the seat has these lots now, and its place did just these deeds since, in what it has seen; else it is as it was
abbrev pub HasDone : {B : Type 0} → List (Deed B) → List (ℕ × LotOf B) → Held B → Held B → Type 0
HasDone own lots x y = (y ≡ record x { lots = lots; front = y.front }) × Adds (place_of x.process) own x.front y.front

-- by the event e, the last that it has seen, the seat gained the lot of its record, behind its others, and of that lot this holds
abbrev pub HasGained : {B : Type 0} → Event → (LotOf B → Type 0) → Held B → Held B → Type 0
HasGained {B} e is x y = (l : LotOf B) × HasDone ((e, l) ∷ []) (x.lots ++ (record_of e, l) ∷ []) x y × IsLotOf x.shape (record_of e) l × is l × IsLast (e, l) y.front

-- by the event e, the last that it has seen, the seat lost this lot of its record
abbrev pub HasLost : {B : Type 0} → Event → LotOf B → Held B → Held B → Type 0
HasLost e l x y = HasDone ((e, l) ∷ []) (without (record_of e) x.lots) x y × IsLast (e, l) y.front

-- the seat has seen more of the others, and else is as it was
abbrev pub HasLooked : {B : Type 0} → Held B → Held B → Type 0
HasLooked x y = HasDone [] x.lots x y

-- a seat's lot of the record at an index
abbrev pub lot_in : {B : Type 0} → ℕ → Held B → Option (LotOf B)
lot_in k x = value_at (number_of x.shape.records k) x.lots

-- between two fronts, of which the first is a beginning of the second, the word of the record r was this: that of its holder then
abbrev pub SawAt : {B : Type 0} → Shape → List (Deed B) → List (Deed B) → ℕ → ℕ → Type 0
SawAt {B} s from to r word = (front : List (Deed B)) × StartsWith front from × StartsWith to front × TellsWord s.records (events front) (index_of s.records r) word

-- the word says something, and it names the seat's process exactly where the seat has the record r
abbrev pub Knows : {B : Type 0} → Held B → ℕ → ℕ → Type 0
Knows x r word = IsWord word × (word ≡ word_of (Some (Process x.process)) ↔ Among (keys x.lots) r)

-- a word for each record of an arena, none of them free, each as the seat saw it at some moment of the call
abbrev pub SawTaken : {B : Type 0} → ℕ → List ℕ → Held B → Held B → Type 0
SawTaken arena words x y = (length words ≡ x.shape.records) × ((k : ℕ) → k < x.shape.records → (slice_index words k ≢ 0)
    × Knows x (arena * MAX_RECORDS + k) (slice_index words k) × SawAt x.shape x.front y.front (arena * MAX_RECORDS + k) (slice_index words k))

-- the seat looked at the record r, whose word at that step was this: that of its holder
abbrev pub HasSeenWord : {B : Type 0} → ℕ → ℕ → Held B → Held B → Type 0
HasSeenWord r word x y = Knows x r word × TellsWord x.shape.records (events y.front) (index_of x.shape.records r) word × HasLooked x y

-- the lot of the record at an index, by its holder at the end: that of the seat of its process, or the one at home
module _ {B : Type 0} (fits : B → ℕ → Bool) (s : Shape) (seats : List (Held B)) where
  abbrev pub EndsAs : ℕ → Option Holder → LotOf B → Type 0
  EndsAs k None l = IsLotAt s k l × IsEmpty fits l
  EndsAs k (Some (Process p)) l = (j : ℕ) × (x : Held B) × (slice_get seats j ≡ Some x) × (x.process ≡ p) × (lot_in k x ≡ Some l)
  EndsAs k (Some (Direction d)) l = IsLotAt s k l × IsFull fits l

  -- these words and lots show, with the views of the seats, one ownership, and one log of all events, of which each seat has seen a beginning, with all that its place did, leads to it;
  -- whatever was accepted, or is in flight, is as the last pass of its record left it
  pub record Ends (words : List ℕ) (lots : List (LotOf B)) : Type 0 where
    pub owners : Ownership
    pub log : List (Deed B)
    pub leads : LeadsTo s.records (replicate (length owners) None) (events log) owners
    pub theirs : (e : Event) → Among (events log) e → place_of (process_of e) < s.places
    pub parts : (j : ℕ) (x : Held B) → slice_get seats j ≡ Some x → deeds_by (place_of x.process) x.front ≡ deeds_by (place_of x.process) log
    pub fronts : (j : ℕ) (x : Held B) → slice_get seats j ≡ Some x → StartsWith log x.front
    pub arrives : Arrives log
    pub left : (k d : ℕ) (l : LotOf B) → IsHeldBy owners k (Some (Direction d)) → slice_get lots k ≡ Some l → IsLeft log (number_of s.records k) d l
    pub holders : (k : ℕ) (h : Option Holder) → IsHeldBy owners k h → IsHolder h
    pub words_are : words ≡ map word_of owners
    pub lots_long : length lots ≡ length owners
    pub all : length lots ≡ length s.names * s.records
    pub lots_are : (k : ℕ) (h : Option Holder) (l : LotOf B) → IsHeldBy owners k h → slice_get lots k ≡ Some l → EndsAs k h l
    pub held : (j k : ℕ) (x : Held B) (l : LotOf B) → slice_get seats j ≡ Some x → lot_in k x ≡ Some l → IsHeldBy owners k (Some (Process x.process))
    pub one : (i j : ℕ) (x y : Held B) → slice_get seats i ≡ Some x → slice_get seats j ≡ Some y → x.process ≡ y.process → i ≡ j
