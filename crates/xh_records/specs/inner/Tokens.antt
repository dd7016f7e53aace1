-- A token's list of slots, and what the types of a seat and of the table keep.
use Rattle.std.specs.Prelude.{◌≡◌, ℕ, zero, suc, ◌-◌, ◌*◌, ◌<◌, ◌≤◌, List, [], ◌∷◌, ◌==◌, cond, length, Some, None, Option}
use mathlib.Core.Option.{some}
use lib.ListN.{get_elem?}
use Rattle.atomic_table.specs.Table.{Me, rest, turned}
use Rattle.atomic_table.specs.Seated.{TableId}
use Rattle.xh_arena.specs.Views.{LotOf}
use Rattle.xh_model.specs.declared.limits.TheConstants.{MAX_ARENAS, PLACES}
use Rattle.xh_model.specs.Words.{number_of, place_of}
use Rattle.xh_model.specs.Keyed.{Distinct, keys, put, without}
use Rattle.xh_records.specs.declared.shape.Shape.{Shape}
use Rattle.xh_records.specs.declared.view.View.{View}
use Rattle.xh_records.specs.Showing.{IsLotAt, IsSmall}
use Rattle.xh_records.specs.inner.Views.{front_in, owned_by}

-- what a token has in the slot k
abbrev pub in_slot : {L : Type 0} → ℕ → List (ℕ × Option L) → Option L
in_slot k [] = None
in_slot k (x ∷ xs) = cond (x.0 == k) x.1 (in_slot k xs)

-- the lots of a token, by the numbers of their records, with n records in an arena
abbrev pub with_lot : {L : Type 0} → ℕ → Option L → List (ℕ × L) → List (ℕ × L)
with_lot r None ls = ls
with_lot r (Some l) ls = (r, l) ∷ ls

abbrev pub numbered : {L : Type 0} → ℕ → List (ℕ × Option L) → List (ℕ × L)
numbered n [] = []
numbered n (x ∷ xs) = with_lot (number_of n x.0) x.1 (numbered n xs)

-- each number is below n
abbrev pub AllBelow : ℕ → List ℕ → Type 0
AllBelow n [] = Unit {0}
AllBelow n (x ∷ xs) = (x < n) × AllBelow n xs

-- these are the slots of a token, each once, and one of them is this
abbrev pub IsListed : {X : Type 0} → List ℕ → List (ℕ × X) → ℕ → Type 0
IsListed order ls slot = (order ≡ keys ls) × Distinct order × ((k : ℕ) × (get_elem? order k ≡ some slot))

-- k turns of a token's list
abbrev pub turns : {X : Type 0} → ℕ → List (ℕ × X) → List (ℕ × X)
turns zero l = l
turns (suc k) l = turns k (turned l)

-- a list turned until the slot is first, which so many turns bring back
pub record IsTurned {X : Type 0} (slot : ℕ) (l now : List (ℕ × Option X)) (after : ℕ) : Type 0 where
  pub first : now ≡ (slot, in_slot slot l) ∷ rest now
  pub again : (y : Option X) → turns after ((slot, y) ∷ rest now) ≡ put slot y l
  pub gone : turns (after - 1) (rest now) ≡ without slot l

-- what the type of the table keeps: a word and a slot for each record of each arena
pub record IsTable (table : TableId) (s : Shape) (count each : ℕ) : Type 0 where
  pub words : table.words ≡ length s.names * s.records
  pub slots : table.slots ≡ length s.names * s.records
  pub some : 0 < table.words
  pub arenas : length s.names ≡ count
  pub few : length s.names ≤ MAX_ARENAS
  pub records : s.records ≡ each
  pub small : IsSmall s
  pub places : (0 < s.places) × (s.places ≤ PLACES)

module _ {B : Type 0} where
  -- each slot of a token has the lot of its record
  abbrev pub AllLots : Shape → List (ℕ × Option (LotOf B)) → Type 0
  AllLots s [] = Unit {0}
  AllLots s (x ∷ xs) = ((l : LotOf B) × (x.1 ≡ Some l) × IsLotAt s x.0 l) × AllLots s xs

  -- what a seat's type keeps
  pub record IsSeat (process : ℕ) (order : List ℕ) (capacity slots : ℕ) (me : Me (Option (LotOf B)) (View B)) : Type 0 where
    pub processes : me.0.processes ≡ process ∷ []
    pub ordered : order ≡ keys me.1
    pub records : me.0.records ≡ owned_by process order
    pub front : me.0.fronts ≡ (place_of process, front_in me.0) ∷ []
    pub lots : AllLots me.0.shape me.1
    pub distinct : Distinct order
    pub below : AllBelow slots order
    pub room : slots ≤ capacity
    pub small : IsSmall me.0.shape
