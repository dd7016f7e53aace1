-- Words, home lots and views show an ownership.
use Rattle.std.specs.Prelude.{◌≡◌, ℕ, ◌%◌, ◌/◌, ◌<◌, ◌≤◌, slice_get, Bool, true, List, map, length, replicate, Some, None, Option}
use mathlib.Core.Option.{none, some}
use mathlib.Core.Option as maybe
use lib.ListN.{get_elem?}
use Rattle.atomic_table.specs.Table.{State}
use Rattle.xh_arena.specs.Views.{LotOf}
use Rattle.xh_model.specs.declared.event.Holder.{Holder}
use Rattle.xh_model.specs.declared.event.Holder.TheVariants.{Process, Direction}
use Rattle.xh_model.specs.declared.event.Event.{Event}
use Rattle.xh_model.specs.declared.limits.TheConstants.{MAX_RECORDS, PLACES, PROCESSES}
use Rattle.xh_model.specs.Words.{Ownership, IsHeldBy, IsHolder, process_of, word_of, place_of, number_of}
use Rattle.xh_model.specs.Keyed.{Among, Distinct}
use Rattle.xh_records.specs.Deeds.{Arrives, Deed, IsLeft, deeds_by, events}
use Rattle.xh_records.specs.History.{LeadsTo, StartsWith}
use Rattle.xh_records.specs.declared.shape.Shape.{Shape}
use Rattle.xh_records.specs.declared.view.View.{View}

-- the view stands for the process p: a place with its generation
abbrev pub Sits : {B : Type 0} → View B → ℕ → Type 0
Sits v p = Among v.processes p

-- the view has the record at the index k, and the process p owns it
abbrev pub Owns : {B : Type 0} → View B → ℕ → ℕ → Type 0
Owns v k p = Among v.records (k, p)

module _ {B : Type 0} where
  -- it is the lot of the record r: of the vault of its arena, at its place there
  abbrev pub IsLotOf : Shape → ℕ → LotOf B → Type 0
  IsLotOf s r l = (l.index ≡ r % MAX_RECORDS) × (slice_get s.names (r / MAX_RECORDS) ≡ Some l.id)

  -- the same of the record at the index k
  abbrev pub IsLotAt : Shape → ℕ → LotOf B → Type 0
  IsLotAt s k l = IsLotOf s (number_of s.records k) l

  -- it has no bytes, and a blank body, which is one that fits none
  abbrev pub IsEmpty : (B → ℕ → Bool) → LotOf B → Type 0
  IsEmpty fits l = (l.len ≡ 0) × (fits l.body 0 ≡ true)

  -- it has bytes, and its body fits them
  abbrev pub IsFull : (B → ℕ → Bool) → LotOf B → Type 0
  IsFull fits l = (0 < l.len) × (fits l.body l.len ≡ true)

module _ {B : Type 0} (fits : B → ℕ → Bool) (s : Shape) where
  -- what is at home for the record at the index k, by its holder
  abbrev pub HomeFits : ℕ → Option Holder → maybe.Option (Option (LotOf B)) → Type 0
  HomeFits k None x = (l : LotOf B) × (x ≡ some (Some l)) × IsLotAt s k l × IsEmpty fits l
  HomeFits k (Some (Process p)) x = x ≡ none
  HomeFits k (Some (Direction d)) x = (l : LotOf B) × (x ≡ some (Some l)) × IsLotAt s k l × IsFull fits l

-- a record is in the view exactly where a process holds it and the view stands for that process; no place stands in it twice
pub record ViewFits {B : Type 0} (s : Shape) (o : Ownership) (v : View B) : Type 0 where
  pub is_owner : (k p : ℕ) → Owns v k p → IsHeldBy o k (Some (Process p)) × Sits v p
  pub owns_all : (k p : ℕ) → IsHeldBy o k (Some (Process p)) → Sits v p → Owns v k p
  pub knows : (p : ℕ) → Sits v p → v.shape ≡ s
  pub places : Distinct (map place_of v.processes)

-- each of the view's fronts is a beginning of the log; that of a place, for which the view stands then, has all deeds of the place
pub record ViewTells {B : Type 0} (log : List (Deed B)) (v : View B) : Type 0 where
  pub begins : (q : ℕ) (front : List (Deed B)) → Among v.fronts (q, front) → StartsWith log front
  pub only : (q : ℕ) (front : List (Deed B)) → Among v.fronts (q, front) → q < PLACES → (p : ℕ) × Sits v p × (q ≡ place_of p) × (deeds_by q front ≡ deeds_by q log)

-- one log of all deeds, each by a process at one of the places, leads from no record held to the ownership, and each view has beginnings of it; whatever was accepted is as it was when it was
-- passed
pub record IsHistory {B : Type 0} (s : Shape) (o : Ownership) (views : List (View B)) (log : List (Deed B)) : Type 0 where
  pub leads : LeadsTo s.records (replicate (length o) None) (events log) o
  pub theirs : (e : Event) → Among (events log) e → place_of (process_of e) < s.places
  pub tells : (id : ℕ) (v : View B) → get_elem? views id ≡ some v → ViewTells log v
  pub arrives : Arrives log

-- an arena has some records, and not too many
abbrev pub IsSmall : Shape → Type 0
IsSmall s = (0 < s.records) × (s.records ≤ MAX_RECORDS)

-- each word is that of its record's holder; a slot is at home, with the lot of its record, exactly where no process holds the record; each place stands in exactly one view, with one
-- generation, and no process of another generation holds a record; the events that the seats did lead to this ownership, and what is in flight is as it was when it was passed
pub record Shows {B : Type 0} (fits : B → ℕ → Bool) (s : Shape) (o : Ownership) (words : List ℕ) (homes : List (maybe.Option (Option (LotOf B)))) (views : List (View B)) : Type 0 where
  pub words_are : words ≡ map word_of o
  pub holders : (k : ℕ) (h : Option Holder) → IsHeldBy o k h → IsHolder h
  pub homes_long : length homes ≡ length o
  pub homes_are : (k : ℕ) (h : Option Holder) → IsHeldBy o k h → (x : maybe.Option (Option (LotOf B))) × (get_elem? homes k ≡ some x) × HomeFits fits s k h x
  pub placed : (k p : ℕ) → IsHeldBy o k (Some (Process p)) → place_of p < s.places
  pub latest : (k p id q : ℕ) (v : View B) → IsHeldBy o k (Some (Process p)) → get_elem? views id ≡ some v → Sits v q → place_of q ≡ place_of p → q ≡ p
  pub seated : (q : ℕ) → q < s.places → (id p : ℕ) × (v : View B) × (get_elem? views id ≡ some v) × Sits v p × (place_of p ≡ q)
  pub inside : (id p : ℕ) (v : View B) → get_elem? views id ≡ some v → Sits v p → (place_of p < s.places) × (p < PROCESSES)
  pub alone : (i j p q : ℕ) (u v : View B) → get_elem? views i ≡ some u → get_elem? views j ≡ some v → Sits u p → Sits v q → place_of p ≡ place_of q → (i ≡ j) × (p ≡ q)
  pub views_fit : (id : ℕ) (v : View B) → get_elem? views id ≡ some v → ViewFits s o v
  pub small : IsSmall s
  pub log : List (Deed B)
  pub history : IsHistory s o views log
  pub left : (k d : ℕ) (l : LotOf B) → IsHeldBy o k (Some (Direction d)) → get_elem? homes k ≡ some (some (Some l)) → IsLeft log (number_of s.records k) d l

module _ {B : Type 0} (fits : B → ℕ → Bool) where
  abbrev pub Shown : Shape → State (Option (LotOf B)) (View B) → Type 0
  Shown s t = (o : Ownership) × Shows fits s o t.words t.homes t.views
