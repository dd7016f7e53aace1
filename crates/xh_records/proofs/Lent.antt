-- A seat whose lots were lent.
use Rattle.xh_records.proofs.Common.{arith, nat_tests, ◌≡◌, ◌≢◌, ℕ, ◌%◌, ◌<◌, List, sym, ap, ◌∙◌, subst, Option, Some, Me, TableId, LotOf, index_of, number_of, keys, put, value_at, put_keys}
use Rattle.xh_records.proofs.Common.{MAX_RECORDS, View, IsLotOf, IsLotAt, RecordsOf, Held, IsRecord, IsSeatOf, with_lots, IsListed, IsSeat, numbered}
use Rattle.xh_model.proofs.Numbers.{index_apart}
use Rattle.xh_records.proofs.Seating.{Reach, reaches, replaces}
use Rattle.xh_records.proofs.Numbered.{held, number_is, put_numbered, slot_is, lot_there, held_same}

-- where the slot of a record of the table is
pub record Spot {B : Type 0} (x : Held B) (me : Me (Option (LotOf B)) (View B)) (slot r : ℕ) : Type 0 where
  pub at : slot ≡ index_of x.shape.records r
  pub below : r % MAX_RECORDS < x.shape.records
  pub number : number_of me.0.shape.records slot ≡ r

pub spot_of : {B : Type 0} (x : Held B) (t : TableId) (id process : ℕ) (me : Me (Option (LotOf B)) (View B)) → held t id process me ≡ x → (all : RecordsOf) (slot r : ℕ) → IsSeatOf all x
    → IsRecord all.shape r
    → slot ≡ index_of all.shape.records r → Spot x me slot r
spot_of {B} x t id process me is all slot r own exists index = grind (arith, nat_tests, number_is)

-- the list after something was put into a slot is still in this order
pub still_listed : {X : Type 0} (order : List ℕ) (slot j : ℕ) (y : X) (ls now : List (ℕ × X)) → IsListed order ls j → now ≡ put slot y ls → IsListed order now j
still_listed order slot j y ls now listed e = (listed.0 ∙ sym (put_keys slot y ls) ∙ ap keys (sym e), listed.1, listed.2)

pub listed_as : {X : Type 0} (a b : List ℕ) (ls : List (ℕ × X)) (slot : ℕ) → a ≡ b → IsListed b ls slot → IsListed a ls slot
listed_as a b ls slot e = subst (λ (z : List ℕ). IsListed z ls slot) (sym e)

module _ {B : Type 0} (x : Held B) (t : TableId) (id process : ℕ) (me : Me (Option (LotOf B)) (View B)) (is : held t id process me ≡ x) (order : List ℕ) (capacity slots : ℕ)
    (seat : IsSeat process order capacity slots me) where
  -- a record that the seat holds: where its slot is
  pub record Lent (slot r : ℕ) (l : LotOf B) : Type 0 where
    pub reach : Reach process order slots me slot l
    pub number : number_of me.0.shape.records slot ≡ r
    pub there : (y : LotOf B) → IsLotOf x.shape r y → IsLotAt me.0.shape slot y

  pub lends : (slot r : ℕ) (l : LotOf B) → Spot x me slot r → value_at r x.lots ≡ Some l → Lent slot r l
  lends slot r l spot has = record {
    reach = reaches process order capacity slots me slot l seat (slot_is x t id process me is order capacity slots seat slot r (Some l) spot.at spot.below has);
    number = spot.number;
    there = λ y lot. lot_there x t id process me is slot r y spot.at spot.below lot;
  }

  -- two different records that the seat holds
  pub record LentBoth (i j r q : ℕ) (l m : LotOf B) : Type 0 where
    pub one : Lent i r l
    pub two : Lent j q m
    pub apart : i ≢ j

  pub lends_both : (i j r q : ℕ) (l m : LotOf B) → Spot x me i r → Spot x me j q → r ≢ q → value_at r x.lots ≡ Some l → value_at q x.lots ≡ Some m → LentBoth i j r q l m
  lends_both i j r q l m first second other has has_too = record {
    one = lends i r l first has;
    two = lends j q m second has_too;
    apart = λ e. other (index_apart x.shape.records r q first.below second.below (sym first.at ∙ e ∙ second.at));
  }

  -- the seat after one lot was lent
  pub kept : (slot r : ℕ) (l left : LotOf B) → Lent slot r l → IsLotOf x.shape r left → IsSeat process order capacity slots (me.0, put slot (Some left) me.1)
  kept slot r l left lent lot = replaces process order capacity slots me slot left seat (lent.there left lot)

  pub after_one : (t' : TableId) (id' : ℕ) (me' : Me (Option (LotOf B)) (View B)) (slot r : ℕ) (l left : LotOf B) → Lent slot r l → t' ≡ t → id' ≡ id → me' ≡ (me.0, put slot (Some left) me.1)
      → held t' id' process me' ≡ with_lots x (put r left x.lots)
  after_one t' id' me' slot r l left lent et en e = grind (arith, nat_tests, held_same, put_numbered)

  -- the seat after two lots were lent
  pub kept_two : (i j r q : ℕ) (l m left also : LotOf B) → Lent i r l → Lent j q m → IsLotOf x.shape r left → IsLotOf x.shape q also
      → IsSeat process order capacity slots (me.0, put j (Some also) (put i (Some left) me.1))
  kept_two i j r q l m left also one two lot other = replaces process order capacity slots (me.0, put i (Some left) me.1) j also (kept i r l left one lot) (two.there also other)

  pub after_two : (t' : TableId) (id' : ℕ) (me' : Me (Option (LotOf B)) (View B)) (i j r q : ℕ) (l m left also : LotOf B) → Lent i r l → Lent j q m → IsLotOf x.shape r left → t' ≡ t → id' ≡ id
      → me' ≡ (me.0, put j (Some also) (put i (Some left) me.1)) → held t' id' process me' ≡ with_lots x (put q also (put r left x.lots))
  after_two t' id' me' i j r q l m left also one two lot et en e = held_same x t id process me is t' id' me' (put q also (put r left x.lots)) et en
      (ap (λ (z : Me (Option (LotOf B)) (View B)). z.0) e)
      (ap (λ (z : Me (Option (LotOf B)) (View B)). numbered z.0.shape.records z.1) e
      ∙ put_numbered me.0.shape seat.small (put i (Some left) me.1) j also (kept i r l left one lot).lots
      ∙ ap (put (number_of me.0.shape.records j) also) (put_numbered me.0.shape seat.small me.1 i left seat.lots)
      ∙ (λ k. put (two.number k) also (put (one.number k) left (is k).lots)))
