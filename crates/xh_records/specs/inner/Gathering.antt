-- The seats as they are emptied and joined at the end, and the lots that came out of their slots.
use Rattle.std.specs.Prelude.{◌≡◌, ℕ, ◌+◌, ◌<◌, ◌≤◌, List, map, length, slice_index_or, Some, None, Option}
use mathlib.Core.Option.{some}
use lib.ListN.{get_elem?}
use Rattle.xh_arena.specs.Views.{LotOf}
use Rattle.xh_model.specs.Words.{place_of}
use Rattle.xh_model.specs.Keyed.{Among, Distinct}
use Rattle.xh_records.specs.declared.view.View.{View}
use Rattle.xh_records.specs.Showing.{Owns}
use Rattle.xh_records.specs.Seats.{Held, lot_in}
use Rattle.xh_records.specs.inner.Views.{view_of}

-- the first that is there
abbrev pub or_else : {L : Type 0} → Option L → Option L → Option L
or_else None y = y
or_else (Some x) y = Some x

abbrev pub slot_at : {L : Type 0} → List (Option L) → ℕ → Option L
slot_at xs r = slice_index_or xs r None

-- the seats from the m-th on are in one view, and their lots in these slots; where no place stands twice in the view, no two of the seats have one place
pub record IsGathered {B : Type 0} (m : ℕ) (seats : List (Held B)) (v : View B) (held : List (Option (LotOf B))) : Type 0 where
  pub sits : (j : ℕ) (x : Held B) → get_elem? seats j ≡ some x → m ≤ j → Among v.processes x.process
  pub fronts : (j : ℕ) (x : Held B) → get_elem? seats j ≡ some x → m ≤ j → Among v.fronts (place_of x.process, x.front)
  pub each : (p : ℕ) → Among v.processes p → (j : ℕ) × (x : Held B) × (get_elem? seats j ≡ some x) × (x.process ≡ p)
  pub count : length v.processes + m ≡ length seats
  pub one : Distinct (map place_of v.processes) → (i j : ℕ) (x y : Held B) → get_elem? seats i ≡ some x → get_elem? seats j ≡ some y → m ≤ i → m ≤ j → x.process ≡ y.process → i ≡ j
  pub records : (k p : ℕ) → Owns v k p → (j : ℕ) × (x : Held B) × (l : LotOf B) × (get_elem? seats j ≡ some x) × (m ≤ j) × (lot_in k x ≡ Some l)
  pub all_records : (j k p : ℕ) (x : Held B) → get_elem? seats j ≡ some x → m ≤ j → Owns (view_of x) k p → Owns v k p
  pub lots : (k : ℕ) (l : LotOf B) → k < length held → slot_at held k ≡ Some l → (j : ℕ) × (x : Held B) × (get_elem? seats j ≡ some x) × (m ≤ j) × (lot_in k x ≡ Some l)
  pub all_lots : (j k : ℕ) (x : Held B) (l : LotOf B) → get_elem? seats j ≡ some x → m ≤ j → lot_in k x ≡ Some l → k < length held → (l' : LotOf B) × (slot_at held k ≡ Some l')
