-- What contracts see of a place, and what its type keeps.
use Rattle.std.specs.Prelude.{◌≡◌, ℕ, ◌+◌, ◌*◌, ◌≤◌, List, [], ◌∷◌, length, Option, Some, None, option_map, unwrap_or}
use Rattle.xh_arena.specs.Views.{LotOf}
use Rattle.xh_core.specs.declared.glance.Glance.{Glance}
use Rattle.xh_core.specs.declared.ledger.PlaceLine.{PlaceLine}
use Rattle.xh_core.specs.declared.status.Status.{Status}
use Rattle.xh_core.specs.declared.status.Status.TheVariants.{Vacant, Running, Ending, Ended}
use Rattle.xh_core.specs.Glances.{line_of}
use Rattle.xh_model.specs.declared.limits.TheConstants.{MAX_ARENAS, MAX_BYTES, MAX_RECORDS, PLACES}
use Rattle.xh_records.specs.declared.shape.Shape.{Shape}
use Rattle.xh_records.specs.Showing.{IsLotOf, IsFull}
use Rattle.xh_model.specs.Keyed.{Among, Distinct, keys, value_at}
use Rattle.xh_records.specs.Seats.{Held, IsRecord}
use Rattle.xh_place.specs.declared.body.Body.{Body}
use Rattle.xh_core.specs.declared.header.Header.{Header}
use Rattle.xh_place.specs.Bodies.{Content, bytes, content_of, kind_of, fits_in}

-- a block: its length, and what it carries
pub record Item : Type 0 where
  pub len : ℕ
  pub content : Content

-- a place: its seat, with the lots of its blocks; their records in the order gained; and how far its process has come
pub record PlaceSeen : Type 0 where
  pub seat : Held Body
  pub list : List ℕ
  pub state : Status

-- a lot as a block
abbrev pub item_of : LotOf Body → Item
item_of l = record { len = l.len; content = content_of l.body }

-- the length and kind of a block
abbrev pub header_of : Item → Header
header_of x = record { len = x.len; kind = kind_of x.content }

-- what stands at a record: the length and kind of the seat's block there, if it has one
abbrev pub found : Held Body → ℕ → Option Header
found seat r = option_map header_of (option_map item_of (value_at r seat.lots))

-- the blocks at these records
abbrev pub shown : List (ℕ × LotOf Body) → List ℕ → List (ℕ × Item)
shown lots [] = []
shown lots (r ∷ rs) = (r, unwrap_or (option_map item_of (value_at r lots)) (record { len = 0; content = bytes [] })) ∷ shown lots rs

-- the bytes of these records, by what is at each
abbrev pub lens : List ℕ → (ℕ → Option (LotOf Body)) → ℕ
lens [] lot = 0
lens (r ∷ rs) lot = unwrap_or (option_map (λ l. l.len) (lot r)) 0 + lens rs lot

-- the sum of the lengths
abbrev pub total_of : PlaceSeen → ℕ
total_of p = lens p.list (λ r. value_at r p.seat.lots)

-- the lot of a record that a process owns, well formed
pub record IsBlock (s : Shape) (r : ℕ) (l : LotOf Body) : Type 0 where
  pub exists : IsRecord s r
  pub lot : IsLotOf s r l
  pub full : IsFull fits_in l

abbrev pub AreWhole : Shape → List (ℕ × LotOf Body) → Type 0
AreWhole s lots = (r : ℕ) (l : LotOf Body) → value_at r lots ≡ Some l → IsBlock s r l

-- the list has the records of these lots and no others
pub record Lists (lots : List (ℕ × LotOf Body)) (xs : List ℕ) : Type 0 where
  pub held : (r : ℕ) → Among xs r → Among (keys lots) r
  pub listed : (r : ℕ) → Among (keys lots) r → Among xs r

-- what a place keeps: each record stands once in its list, which has those of its seat; each block is whole, and there are at most 2,048
pub record AreBlocks (p : PlaceSeen) : Type 0 where
  pub distinct : Distinct p.list
  pub lists : Lists p.seat.lots p.list
  pub whole : (r : ℕ) (l : LotOf Body) → value_at r p.seat.lots ≡ Some l → IsFull fits_in l
  pub few : length p.list ≤ MAX_ARENAS * MAX_RECORDS
  pub sum : total_of p ≤ MAX_ARENAS * MAX_RECORDS * MAX_BYTES

-- what a place is now, and what the ledger says of it
abbrev pub glance_of : PlaceSeen → Glance
glance_of p = record { process = p.seat.process; state = p.state; blocks = length p.list; bytes = total_of p }

abbrev pub place_line : PlaceSeen → PlaceLine
place_line p = line_of (glance_of p)

-- a place that nobody has had has no line
abbrev pub line_in : Status → PlaceLine → Option PlaceLine
line_in Vacant l = None
line_in Running l = Some l
line_in Ending l = Some l
line_in Ended l = Some l

-- the next process of the place, or its first
abbrev pub next_process : Status → ℕ → ℕ
next_process Ended p = p + PLACES
next_process Vacant p = p
next_process Running p = p
next_process Ending p = p

abbrev pub started : PlaceSeen → PlaceSeen
started p = record p { seat = record p.seat { process = next_process p.state p.seat.process }; state = Running }

-- a place that nobody has, or whose process has ended, has no block
abbrev pub IsQuiet : Status → List ℕ → Type 0
IsQuiet Vacant xs = xs ≡ []
IsQuiet Ended xs = xs ≡ []
IsQuiet Running xs = Unit {0}
IsQuiet Ending xs = Unit {0}

-- what a place's type keeps: its list has exactly the records of its seat, each once, all well formed, and its total is the sum
pub record IsPlace (s : Shape) (lots : List (ℕ × LotOf Body)) (xs : List ℕ) (capacity total : ℕ) (state : Status) : Type 0 where
  pub lists : Lists lots xs
  pub whole : AreWhole s lots
  pub distinct : Distinct xs
  pub sum : total ≡ lens xs (λ r. value_at r lots)
  pub room : (length s.names * s.records ≤ capacity) × (length s.names ≤ MAX_ARENAS)
  pub quiet : IsQuiet state xs
