-- What a place's seat has seen of the one log of all records, and what a call of it saw at a record.
use Rattle.std.specs.Prelude.{◌≡◌, ◌≢◌, ◌⊎◌, ℕ, ◌==◌, Bool, cond, ◌+◌, ◌*◌, ◌/◌, ◌≤◌, ◌∷◌, ◌++◌, List, [], Some, length, map}
use Rattle.xh_arena.specs.Views.{LotOf}
use Rattle.xh_model.specs.declared.event.Event.{Event}
use Rattle.xh_model.specs.declared.event.Event.TheVariants.{Accept, Pass}
use Rattle.xh_model.specs.declared.event.Holder.TheVariants.{Process}
use Rattle.xh_model.specs.declared.limits.TheConstants.{MAX_RECORDS}
use Rattle.xh_model.specs.Keyed.{Among, keys}
use Rattle.xh_model.specs.Words.{place_of, word_of}
use Rattle.xh_records.specs.declared.shape.Shape.{Shape}
use Rattle.xh_records.specs.Deeds.{Deed, IsLeft, deeds_by}
use Rattle.xh_records.specs.History.{StartsWith}
use Rattle.xh_records.specs.Seats.{Held, IsRecord, SawAt}
use Rattle.xh_place.specs.declared.body.Body.{Body}
use Rattle.xh_place.specs.Deeds.{accepted_on, let_go}
use Rattle.xh_place.specs.Places.{Item, PlaceSeen, item_of}

-- what was added from the one front to the other has just these deeds of the place of the process p, in this order, each with the block of its record as it was then
abbrev pub Did : ℕ → List (Event × Item) → List (Deed Body) → List (Deed Body) → Type 0
Did p parts from to = (more : List (Deed Body)) × (to ≡ from ++ more) × (map (λ d. (d.0, item_of d.1)) (deeds_by (place_of p) more) ≡ parts)

-- the seat has these lots now, did just these deeds, and all else but what it has seen is as it was
abbrev pub Acts : List (Event × Item) → List (ℕ × LotOf Body) → Held Body → Held Body → Type 0
Acts parts lots old new = (new ≡ record old { lots = lots; front = new.front }) × Did old.process parts old.front new.front

-- its seat did so, this is its list now, and its process came no further
abbrev pub Becomes : List (ℕ × LotOf Body) → List ℕ → List (Event × Item) → PlaceSeen → PlaceSeen → Type 0
Becomes lots list parts old new = (new ≡ record { seat = record old.seat { lots = lots; front = new.seat.front }; list = list; state = old.state })
    × Did old.seat.process parts old.seat.front new.seat.front

-- the block of the record r came on the direction, the last one of the seat and of the list
abbrev pub Gains : ℕ → ℕ → LotOf Body → PlaceSeen → PlaceSeen → Type 0
Gains d r l old new = Becomes (old.seat.lots ++ (r, l) ∷ []) (old.list ++ r ∷ []) (accepted_on old.seat.process d ((r, item_of l) ∷ [])) old new

-- it is the place that it was, and did nothing
abbrev pub Stays : PlaceSeen → PlaceSeen → Type 0
Stays old new = Becomes old.seat.lots old.list [] old new

-- The process claimed some records of the arena, of which `also` holds, and let go of them again. Else the seat is as it was.
abbrev pub LetsGo : (List ℕ → Type 0) → ℕ → Held Body → Held Body → Type 0
LetsGo also arena old new = (claims : List ℕ) × also claims × ((r : ℕ) → Among claims r → r / MAX_RECORDS ≡ arena) × Acts (let_go old.process claims) old.lots old new

-- the place has claimed at most so many records of the arena and let go of them again, and is else as it was
abbrev pub LeavesIt : ℕ → ℕ → PlaceSeen → PlaceSeen → Type 0
LeavesIt most arena old new = LetsGo (λ claims. length claims ≤ most) arena old.seat new.seat × (new.list ≡ old.list) × (new.state ≡ old.state)

-- the same place, and the same process
abbrev pub IsSamePlace : PlaceSeen → PlaceSeen → Type 0
IsSamePlace old new = (new.seat.table ≡ old.seat.table) × (new.seat.shape ≡ old.seat.shape) × (new.seat.process ≡ old.seat.process) × StartsWith new.seat.front old.seat.front

-- ---- looks. Of two fronts the first is a beginning of the second

-- from the one front to the other the process p accepted the record r on the direction, as this block; and this is what the last deed on the record before, a pass to that direction, left
abbrev pub Arrived : ℕ → List (Deed Body) → List (Deed Body) → ℕ → ℕ → Item → Type 0
Arrived p from to r d x = (before : List (Deed Body)) × (l : LotOf Body) × StartsWith before from × StartsWith to (before ++ (Accept p r d, l) ∷ []) × IsLeft before r d l × (x ≡ item_of l)

-- what a call saw at a record: its word, or that it brought this block from a direction
pub data Sight : Type 0 where
  bears : ℕ → Sight
  brings : ℕ → Item → Sight

-- The seat saw this at the record r in this call. Where there is no such record, its word is 0, as of a free one.
abbrev pub IsSeen : Held Body → Held Body → ℕ → Sight → Type 0
IsSeen old new r (bears word) = SawAt old.shape old.front new.front r word ⊎ ((IsRecord old.shape r → ⊥) × (word ≡ 0))
IsSeen old new r (brings d x) = Arrived old.process old.front new.front r d x

-- `saw r word` says that this word was seen at the record r. Here it was another one than "in flight on the direction".
abbrev pub IsElsewhere : (ℕ → ℕ → Type 0) → ℕ → ℕ → Type 0
IsElsewhere saw d r = (word : ℕ) × (word ≢ 2 + 4 * d) × saw r word

-- what a give saw at a record, once the process had passed it on the direction: its word, or that it came back as this block
abbrev pub IsSeenAfter : ℕ → ℕ → Shape → List (Deed Body) → List (Deed Body) → ℕ → Sight → Type 0
IsSeenAfter d p s from to r (bears word) = (before : List (Deed Body)) × (l : LotOf Body) × StartsWith before from × SawAt s (before ++ (Pass p r d, l) ∷ []) to r word
IsSeenAfter d p s from to r (brings way x) = Arrived p from to r way x

-- from the one front to the other each record of the arena had, at some step, a word that says that it isn't free; and where that is the process's own word, the record is one that it held
abbrev pub SawFull : ℕ → List ℕ → Shape → List (Deed Body) → List (Deed Body) → ℕ → Type 0
SawFull p held s from to arena = (r : ℕ) → IsRecord s r → r / MAX_RECORDS ≡ arena
    → (word : ℕ) × (word ≢ 0) × (word ≡ word_of (Some (Process p)) → Among held r) × SawAt s from to r word

-- The seat claimed at most so many records of the arena and let go of them again, and saw that no other was free: none of the other words was that of its process, but for its lots.
abbrev pub FindsFull : ℕ → Held Body → Held Body → ℕ → Type 0
FindsFull most old new arena = LetsGo (λ claims. (length claims ≤ most) × SawFull old.process (keys old.lots ++ claims) old.shape old.front new.front arena) arena old new

-- the list without a number
abbrev pub less : ℕ → List ℕ → List ℕ
less r [] = []
less r (x ∷ xs) = cond (x == r) (less r xs) (x ∷ less r xs)

-- the list without those of the given numbers that do not stay
abbrev pub less_all : List ℕ → (ℕ → Bool) → List ℕ → List ℕ
less_all [] stays xs = xs
less_all (r ∷ rs) stays xs = less_all rs stays (cond (stays r) xs (less r xs))
