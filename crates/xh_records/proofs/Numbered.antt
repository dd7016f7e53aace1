-- A seat's lots by the numbers of their records.
use Rattle.xh_records.proofs.Common.{nat_tests, arith, ◌≡◌, ℕ, suc, length, ◌%◌, ◌<◌, ◌≤◌, List, [], ◌∷◌, ◌++◌, map, sym, refl, ap, ◌∙◌, subst, Option, Some, None, Me, TableId, LotOf}
use Rattle.xh_records.proofs.Common.{index_of, Deed, IsLast, append_assoc, number_of, place_of, number_inside, index_back, number_back, Among, keys, put, value_at, without, Shape, View, IsLotOf, IsLotAt, IsSmall}
use Rattle.xh_records.proofs.Common.{Holder, Process, Direction, taking, giving, HasDone, HasGained, HasLost, HasSeenWord, Held, view_of, with_lots, IsRecord, adds, front_in}
use Rattle.xh_records.proofs.Common.{IsOthers, SeesMore, TellsWord, in_slot, with_lot, numbered, AllLots, IsSeat, events}
use Rattle.xh_records.proofs.Common.{deeds_by, inl, word_of, Knows, KnowsAt}
use Rattle.xh_records.proofs.Deeds.{deeds_append}
use Rattle.xh_records.proofs.Lists.{among_owned, among_owned_back}
use Rattle.xh_records.proofs.Elements.{among_map, in_range, slice_elem}
use Rattle.xh_records.proofs.History.{adds_one}

pub index_injective : (n k j : ℕ) → 0 < n → n ≤ 256 → number_of n k ≡ number_of n j → k ≡ j
index_injective n k j pos most e = sym (index_back n k pos most) ∙ ap (index_of n) e ∙ index_back n j pos most

with_lot_append : {L : Type 0} (r : ℕ) (o : Option L) (ls ms : List (ℕ × L)) → with_lot r o (ls ++ ms) ≡ with_lot r o ls ++ ms
with_lot_append r o ls ms = grind (arith, nat_tests)

pub numbered_push : {L : Type 0} (n : ℕ) (xs : List (ℕ × Option L)) (k : ℕ) (l : L) → numbered n (xs ++ (k, Some l) ∷ []) ≡ numbered n xs ++ (number_of n k, l) ∷ []
numbered_push n [] k l = refl
numbered_push n (x ∷ xs) k l = ap (with_lot (number_of n x.0) x.1) (numbered_push n xs k l) ∙ with_lot_append (number_of n x.0) x.1 (numbered n xs) ((number_of n k, l) ∷ [])

module _ {B : Type 0} (s : Shape) (small : IsSmall s) where
  -- a slot that has a lot comes out with it
  head_is : (x : ℕ × Option (LotOf B)) (xs : List (ℕ × Option (LotOf B))) (l : LotOf B) → x.1 ≡ Some l → numbered s.records (x ∷ xs) ≡ (number_of s.records x.0, l) ∷ numbered s.records xs
  head_is x xs l e = ap (λ (z : Option (LotOf B)). with_lot (number_of s.records x.0) z (numbered s.records xs)) e

  pub indices_are : (xs : List (ℕ × Option (LotOf B))) → AllLots s xs → map (index_of s.records) (keys (numbered s.records xs)) ≡ keys xs
  indices_are [] all = refl
  indices_are (x ∷ xs) all = ap (λ (l : List (ℕ × LotOf B)). map (index_of s.records) (keys l)) (head_is x xs all.0.0 all.0.1)
      ∙ (λ i. index_back s.records x.0 small.0 small.1 i ∷ indices_are xs all.1 i)

  numbers_are : (xs : List (ℕ × Option (LotOf B))) → AllLots s xs → keys (numbered s.records xs) ≡ map (number_of s.records) (keys xs)
  numbers_are [] all = refl
  numbers_are (x ∷ xs) all = ap (λ (l : List (ℕ × LotOf B)). keys l) (head_is x xs all.0.0 all.0.1) ∙ ap (λ l. number_of s.records x.0 ∷ l) (numbers_are xs all.1)

  pub lot_numbered : (xs : List (ℕ × Option (LotOf B))) (k : ℕ) → AllLots s xs → value_at (number_of s.records k) (numbered s.records xs) ≡ in_slot k xs
  lot_numbered [] k all = refl
  lot_numbered (x ∷ xs) k all = grind (arith, nat_tests, head_is x xs all.0.0 all.0.1, lot_numbered xs k all.1, index_injective s.records x.0 k small.0 small.1, ap (number_of s.records), all.0.1)

  pub without_numbered : (xs : List (ℕ × Option (LotOf B))) (k : ℕ) → AllLots s xs → numbered s.records (without k xs) ≡ without (number_of s.records k) (numbered s.records xs)
  without_numbered [] k all = refl
  without_numbered (x ∷ xs) k all = grind (arith, nat_tests, head_is, index_injective, without_numbered xs k all.1)

  pub put_numbered : (xs : List (ℕ × Option (LotOf B))) (k : ℕ) (l : LotOf B) → AllLots s xs → numbered s.records (put k (Some l) xs) ≡ put (number_of s.records k) l (numbered s.records xs)
  put_numbered [] k l all = refl
  put_numbered (x ∷ xs) k l all = grind (arith, nat_tests, head_is, index_injective, put_numbered xs k l all.1)

  pub none_numbered : (xs : List (ℕ × Option (LotOf B))) → AllLots s xs → numbered s.records xs ≡ [] → xs ≡ []
  none_numbered [] all e = refl
  none_numbered (x ∷ xs) all e = let f : (number_of s.records x.0, all.0.0) ∷ numbered s.records xs ≡ [] = sym (head_is x xs all.0.0 all.0.1) ∙ e in absurd (cc)

module _ {B : Type 0} (s : Shape) (small : IsSmall s) where
  pub length-numbered : (xs : List (ℕ × Option (LotOf B))) → AllLots s xs → length (numbered s.records xs) ≡ length xs
  length-numbered [] all = refl
  length-numbered (x ∷ xs) all = ap length (head_is s small x xs all.0.0 all.0.1) ∙ ap suc (length-numbered xs all.1)

  -- a lot beside a record's number is that of its slot
  own_lot : (r : ℕ) (l : LotOf B) (xs : List (ℕ × Option (LotOf B))) → AllLots s xs → value_at r (numbered s.records xs) ≡ Some l → (k : ℕ) × (number_of s.records k ≡ r) × IsLotAt s k l
  own_lot r l [] all = λ e. absurd (cc)
  own_lot r l (x ∷ xs) all = grind (arith, nat_tests, head_is, own_lot r l xs all.1)

  -- and the record is one of the table
  pub own_record : (r : ℕ) (l : LotOf B) (xs : List (ℕ × Option (LotOf B))) → AllLots s xs → value_at r (numbered s.records xs) ≡ Some l → IsRecord s r × IsLotOf s r l
  own_record r l xs all e = grind (arith, nat_tests, own_lot, in_range, slice_elem, number_inside)

-- what a seat gained or lost, by the event of a step
pub gained_by : {B : Type 0} (x y : Held B) (p r : ℕ) (h : Option Holder) (is : LotOf B → Type 0) (l : LotOf B) → IsLotOf x.shape r l → is l
    → HasDone ((taking p r h, l) ∷ []) (x.lots ++ (r, l) ∷ []) x y → IsLast (taking p r h, l) y.front → HasGained (taking p r h) is x y
gained_by x y p r None is l lot good e last = (l, e, lot, good, last)
gained_by x y p r (Some (Process q)) is l lot good e last = (l, e, lot, good, last)
gained_by x y p r (Some (Direction d)) is l lot good e last = (l, e, lot, good, last)

pub lost_by : {B : Type 0} (x y : Held B) (p r : ℕ) (h : Option Holder) (l : LotOf B) → HasDone ((giving p r h, l) ∷ []) (without r x.lots) x y
    → IsLast (giving p r h, l) y.front → HasLost (giving p r h) l x y
lost_by x y p r None l e last = (e, last)
lost_by x y p r (Some (Process q)) l e last = (e, last)
lost_by x y p r (Some (Direction d)) l e last = (e, last)

-- a seat as contracts see it
abbrev pub held : {B : Type 0} → TableId → ℕ → ℕ → Me (Option (LotOf B)) (View B) → Held B
held t id process me = record {
  table = t;
  id = id;
  shape = me.0.shape;
  process = process;
  lots = numbered me.0.shape.records me.1;
  front = front_in me.0;
}

-- the number of the record in a slot
pub number_is : (n m slot r : ℕ) → n ≡ m → slot ≡ index_of m r → r % 256 < m → number_of n slot ≡ r
number_is n m slot r same at inside = (λ i. number_of (same i) (at i)) ∙ number_back m r inside

module _ {B : Type 0} (x : Held B) (t : TableId) (id process : ℕ) (me : Me (Option (LotOf B)) (View B)) (is : held t id process me ≡ x) where
  -- a seat's view
  pub views_are : (order : List ℕ) (capacity slots : ℕ) → IsSeat process order capacity slots me → view_of x ≡ me.0
  views_are order capacity slots seat = grind (arith, nat_tests, indices_are)

  -- what a seat has in the slot of a record
  pub slot_is : (order : List ℕ) (capacity slots : ℕ) → IsSeat process order capacity slots me → (slot r : ℕ) (y : Option (LotOf B)) → slot ≡ index_of x.shape.records r → r % 256 < x.shape.records
      → value_at r x.lots ≡ y → in_slot slot me.1 ≡ y
  slot_is order capacity slots seat slot r y at inside has = grind (arith, nat_tests, number_is, lot_numbered)

  -- the lot of a record is that of its slot
  pub lot_there : (slot r : ℕ) (l : LotOf B) → slot ≡ index_of x.shape.records r → r % 256 < x.shape.records → IsLotOf x.shape r l → IsLotAt me.0.shape slot l
  lot_there slot r l at inside lot = grind (arith, nat_tests, number_is)

  pub lot_back : (slot r : ℕ) (l : LotOf B) → slot ≡ index_of x.shape.records r → r % 256 < x.shape.records → IsLotAt me.0.shape slot l → IsLotOf x.shape r l
  lot_back slot r l at inside lot = grind (arith, nat_tests, number_is)

  -- a record that the seat has is in its list, and the other way round
  module _ (order : List ℕ) (capacity slots : ℕ) (seat : IsSeat process order capacity slots me) (slot r : ℕ) (at : slot ≡ index_of x.shape.records r) where
    in_order : Among (keys x.lots) r → Among order slot
    in_order h =
        let n : ℕ = x.shape.records in
        let there : Among (map (index_of n) (keys x.lots)) (index_of n r) = among_map (index_of n) (keys x.lots) r h in
        let keys_are : map (index_of n) (keys x.lots) ≡ order = grind (arith, nat_tests, indices_are) in
        subst (λ (z : List ℕ × ℕ). Among z.0 z.1) (λ i. (keys_are i, sym at i)) there

    pub fresh : (Among order slot → ⊥) → Among (keys x.lots) r → ⊥
    fresh new h = new (in_order h)

    -- what the seat's view knows of the word of its record
    known : (word : ℕ) → r % 256 < x.shape.records → KnowsAt me.0 slot word → Knows x r word
    known word inside knows =
        let n : ℕ = me.0.shape.records in
        let mine = knows.1 process (subst (λ (l : List ℕ). Among l process) (sym seat.processes) (inl refl)) in
        let whose : process ≡ x.process = ap (λ (y : Held B). y.process) is in
        let same : map (number_of n) order ≡ keys x.lots = ap (map (number_of n)) seat.ordered ∙ sym (numbers_are me.0.shape seat.small me.1 seat.lots) ∙ ap (λ (y : Held B). keys y.lots) is in
        let number : number_of n slot ≡ r = number_is n x.shape.records slot r (ap (λ (y : Held B). y.shape.records) is) at inside in (
          knows.0,
          (
            (λ e. subst (λ (z : List ℕ × ℕ). Among z.0 z.1) (λ i. (same i, number i))
                (among_map (number_of n) order slot (among_owned_back process order slot process (subst (λ (l : List (ℕ × ℕ)). Among l (slot, process)) seat.records
                (mine.0 (e ∙ ap (λ p. word_of (Some (Process p))) (sym whose))))))),
            (λ h. mine.1 (subst (λ (l : List (ℕ × ℕ)). Among l (slot, process)) (sym seat.records) (among_owned process order slot (in_order h)))
                ∙ ap (λ p. word_of (Some (Process p))) whose),
          ),
        )

  -- the seat afterwards, with other lots
  pub held_same : (t' : TableId) (id' : ℕ) (me' : Me (Option (LotOf B)) (View B)) (ls : List (ℕ × LotOf B)) → t' ≡ t → id' ≡ id → me'.0 ≡ me.0 → numbered me'.0.shape.records me'.1 ≡ ls
      → held t' id' process me' ≡ with_lots x ls
  held_same t' id' me' ls et en ev el = λ j. record {
    table = (et ∙ ap (λ (y : Held B). y.table) is) j;
    id = (en ∙ ap (λ (y : Held B). y.id) is) j;
    shape = (ap (λ (v : View B). v.shape) ev ∙ ap (λ (y : Held B). y.shape) is) j;
    process = (is j).process;
    lots = el j;
    front = (ap (λ (v : View B). front_in v) ev ∙ ap (λ (y : Held B). y.front) is) j;
  }

  -- and after a step, with other lots, deeds of others that it saw, and its own
  pub held_as : (order : List ℕ) (capacity slots : ℕ) → IsSeat process order capacity slots me → (t' : TableId) (id' : ℕ) (me' : Me (Option (LotOf B)) (View B)) (ls : List (ℕ × LotOf B))
      (others own : List (Deed B)) → t' ≡ t → id' ≡ id → me'.0.shape ≡ me.0.shape → numbered me'.0.shape.records me'.1 ≡ ls → me'.0.fronts ≡ adds (others ++ own) me.0.fronts
      → IsOthers me.0 others → deeds_by (place_of x.process) own ≡ own → HasDone own ls x (held t' id' process me')
  held_as order capacity slots seat t' id' me' ls others own et en es el ef of_others mine =
      let none : deeds_by (place_of x.process) others ≡ [] = grind (arith, nat_tests) in (
        (λ j. record {
          table = (et ∙ ap (λ (y : Held B). y.table) is) j;
          id = (en ∙ ap (λ (y : Held B). y.id) is) j;
          shape = (es ∙ ap (λ (y : Held B). y.shape) is) j;
          process = (is j).process;
          lots = el j;
          front = front_in me'.0;
        }),
        (others ++ own, grind (arith, nat_tests, adds_one), deeds_append (place_of x.process) others own ∙ (λ i. none i ++ mine i)),
      )

  -- its own deed stands last
  pub held_last : (order : List ℕ) (capacity slots : ℕ) → IsSeat process order capacity slots me → (me' : Me (Option (LotOf B)) (View B)) (others : List (Deed B)) (d : Deed B)
      → me'.0.fronts ≡ adds (others ++ d ∷ []) me.0.fronts → IsLast d (front_in me'.0)
  held_last order capacity slots seat me' others d ef =
      let e : front_in me'.0 ≡ x.front ++ (others ++ d ∷ []) = grind (arith, nat_tests, adds_one) in (x.front ++ others, e ∙ sym (append_assoc x.front others (d ∷ [])))

  -- and after a look, which found a word
  pub held_seen : (order : List ℕ) (capacity slots : ℕ) (seat : IsSeat process order capacity slots me) (t' : TableId) (id' : ℕ) (me' : Me (Option (LotOf B)) (View B)) (slot r word : ℕ) → t' ≡ t
      → id' ≡ id → slot ≡ index_of x.shape.records r → r % 256 < x.shape.records → SeesMore slot word me me' → HasSeenWord r word x (held t' id' process me')
  held_seen order capacity slots seat t' id' me' slot r word et en at inside sees =
      let shape : me'.0.shape ≡ x.shape = ap (λ (m : Me (Option (LotOf B)) (View B)). m.0.shape) sees.2 ∙ ap (λ (y : Held B). y.shape) is in (
        known order capacity slots seat slot r at word inside sees.3.0,
        subst (λ (z : Shape × ℕ). TellsWord z.0.records (events (front_in me'.0)) z.1 word) (λ i. (shape i, at i)) sees.3.1,
        held_as order capacity slots seat t' id' me' x.lots sees.0 [] et en (ap (λ (m : Me (Option (LotOf B)) (View B)). m.0.shape) sees.2)
            (ap (λ (m : Me (Option (LotOf B)) (View B)). numbered m.0.shape.records m.1) sees.2 ∙ ap (λ (y : Held B). y.lots) is)
            (ap (λ (m : Me (Option (LotOf B)) (View B)). m.0.fronts) sees.2) sees.1 refl,
      )
