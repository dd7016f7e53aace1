-- A seat with no lot, as it gains one, changes it and loses it.
use Rattle.std.proofs.Common.{◌≡◌, ℕ, List, [], ◌∷◌, ◌++◌, refl, sym, ap, ◌∙◌, subst}
use Rattle.std.specs.Prelude.{Some}
use Rattle.xh_arena.specs.Views.{LotOf}
use Rattle.xh_model.specs.Keyed.{put, value_at, without}
use Rattle.xh_model.proofs.Keyed.{here_first}
use Rattle.xh_records.specs.Deeds.{Deed}
use Rattle.xh_records.specs.Seats.{Held, RecordsOf, IsSeatOf, with_lots}

-- the seat that has seen so much
abbrev pub seen : {B : Type 0} → List (Deed B) → Held B → Held B
seen front x = record x { front = front }

module _ {B : Type 0} (x y z : Held B) (r : ℕ) (l l' : LotOf B) where
  pub gains_one : x.lots ≡ [] → y ≡ with_lots x (x.lots ++ (r, l) ∷ []) → y ≡ with_lots x ((r, l) ∷ [])
  gains_one none gained = gained ∙ ap (λ (ls : List (ℕ × LotOf B)). with_lots x (ls ++ (r, l) ∷ [])) none

  pub has_one : y ≡ with_lots x ((r, l) ∷ []) → value_at r y.lots ≡ Some l
  has_one one = ap (λ (h : Held B). value_at r h.lots) one ∙ here_first r r _ _ refl

  pub changes_one : y ≡ with_lots x ((r, l) ∷ []) → z ≡ with_lots y (put r l' y.lots) → z ≡ with_lots x ((r, l') ∷ [])
  changes_one one changed = changed ∙ ap (λ (h : Held B). with_lots h (put r l' h.lots)) one ∙ ap (with_lots x) (here_first r r ((r, l') ∷ []) _ refl)

  pub loses_one : y ≡ with_lots x ((r, l) ∷ []) → z ≡ record y { lots = without r y.lots; front = z.front } → z ≡ with_lots (seen z.front x) []
  loses_one one lost = lost ∙ ap (λ (h : Held B). record h { lots = without r h.lots; front = z.front }) one ∙ ap (with_lots (seen z.front x)) (here_first r r [] _ refl)

-- it is of the same table
pub still_of : {B : Type 0} (all : RecordsOf) (x y : Held B) (ls : List (ℕ × LotOf B)) → IsSeatOf all x → y ≡ with_lots x ls → IsSeatOf all y
still_of {B} all x y ls own is = subst (λ (h : Held B). IsSeatOf all h) (sym is) own
