-- What each kind of step tells its seat, with both outcomes of a compare.
use Rattle.std.specs.Prelude.{◌≡◌, ◌≢◌, ℕ, [], ◌∷◌, ◌++◌, Bool, List, slice_index, Some, Option}
use Rattle.atomic_table.specs.Table.{Me, Step, rest}
use Rattle.xh_arena.specs.Views.{LotOf}
use Rattle.xh_model.specs.declared.event.Holder.{Holder}
use Rattle.xh_model.specs.declared.event.Holder.TheVariants.{Process}
use Rattle.xh_model.specs.Words.{IsWord, place_of, word_of}
use Rattle.xh_records.specs.declared.view.View.{View}
use Rattle.xh_records.specs.Deeds.{Arrives, Deed, deeds_by, events}
use Rattle.xh_records.specs.History.{IsOneLog, TellsWord}
use Rattle.xh_records.specs.Showing.{IsLotAt, Owns, Sits}
use Rattle.xh_records.specs.inner.Events.{IsHomeLot}
use Rattle.xh_records.specs.inner.Views.{front_in, gained, head_of, knowing, lost, renewed}

-- the process of a view that stands for one
abbrev pub process_in : {B : Type 0} → View B → ℕ
process_in v = slice_index v.processes 0

-- these are deeds of other places than that of a view that stands for one
abbrev pub IsOthers : {B : Type 0} → View B → List (Deed B) → Type 0
IsOthers v others = deeds_by (place_of (process_in v)) others ≡ []

-- the word at the index k says something, and it names a process that the view stands for exactly where the view has the record
abbrev pub KnowsAt : {B : Type 0} → View B → ℕ → ℕ → Type 0
KnowsAt v k word = IsWord word × ((p : ℕ) → Sits v p → (word ≡ word_of (Some (Process p)) → Owns v k p) × (Owns v k p → word ≡ word_of (Some (Process p))))

-- what the view knows of a word at the index k, which its front tells
abbrev pub Finds : {B : Type 0} → View B → ℕ → ℕ → View B → Type 0
Finds v k word now = KnowsAt v k word × TellsWord now.shape.records (events (front_in now)) k word

-- the view has seen deeds of others, and a word at the index k
abbrev pub SeesMore : {S : Type 0} → {B : Type 0} → ℕ → ℕ → Me S (View B) → Me S (View B) → Type 0
SeesMore {B = B} k word me me' = (others : List (Deed B)) × IsOthers me.0 others × (me' ≡ (knowing me.0 (others ++ []), me.1)) × Finds me.0 k word me'.0

module _ {B : Type 0} where
  -- a load, whose word the seat knows, and which shows it deeds of others
  abbrev pub looked : Step (Option (LotOf B)) → Me (Option (LotOf B)) (View B) → ℕ → Me (Option (LotOf B)) (View B) → Type 0
  looked st me n me' = SeesMore st.word n me me'

  -- a compare that takes the record's lot, which is as it has to be at home, where it found the word that it wants, and is a deed, after which all that the view has seen accepted is as it was
  -- passed; else it is a look
  abbrev pub took_slot : (B → ℕ → Bool) → Step (Option (LotOf B)) → Me (Option (LotOf B)) (View B) → ℕ → Me (Option (LotOf B)) (View B) → Type 0
  took_slot fits st me n me' =
      (n ≡ st.first → (l : LotOf B) × (others : List (Deed B)) × IsOthers me.0 others
      × ((h : Option Holder) → st.first ≡ word_of h → (me' ≡ (gained me.0 st.word (process_in me.0) h l others, (st.word, Some l) ∷ me.1)) × IsHomeLot fits h l)
      × IsLotAt me.0.shape st.word l × ((p : ℕ) → Owns me.0 st.word p → ⊥) × Arrives (front_in me'.0))
      × (n ≢ st.first → looked st me n me')

  -- a store that gives the lot back, and is a deed
  abbrev pub gave_slot : Step (Option (LotOf B)) → Me (Option (LotOf B)) (View B) → ℕ → Me (Option (LotOf B)) (View B) → Type 0
  gave_slot st me n me' = (others : List (Deed B)) × IsOthers me.0 others × ((h : Option Holder) (l : LotOf B) → st.first ≡ word_of h → me.1 ≡ (st.word, Some l) ∷ rest me.1
      → me' ≡ (lost me.0 st.word (process_in me.0) h l others, rest me.1))

  -- a load by a seat that was told what another had seen: of two fronts one is a beginning of the other. It forgets the second
  abbrev pub compared : Step (Option (LotOf B)) → Me (Option (LotOf B)) (View B) → ℕ → Me (Option (LotOf B)) (View B) → Type 0
  compared st me n me' = (me' ≡ (record me.0 { fronts = head_of me.0.fronts }, me.1))
      × ((a b : ℕ × List (Deed B)) → me.0.fronts ≡ a ∷ b ∷ [] → IsOneLog a.1 b.1)

  -- a load, by a seat that stands for its place anew
  abbrev pub aged : Step (Option (LotOf B)) → Me (Option (LotOf B)) (View B) → ℕ → Me (Option (LotOf B)) (View B) → Type 0
  aged st me n me' = me' ≡ (renewed me.0, me.1)
