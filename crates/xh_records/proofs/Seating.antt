-- What a seat's type keeps, at each change of its list.
use Rattle.xh_records.proofs.Common.{nat_tests, ◌≡◌, ℕ, suc, ◌+◌, ◌<◌, ◌≤◌, List, [], ◌∷◌, ◌++◌, length, sym, refl, ap, ◌∙◌, subst, inl, ⊎_elim, arith, Option, Some, remove, some, dite}
use Rattle.xh_records.proofs.Common.{ℕ_discrete, get_elem?, Me, LotOf, Among, Distinct, keys, put, without, among_back, distinct_push, distinct_split, here_first, keys_append, keys_push}
use Rattle.xh_records.proofs.Common.{length-keys, not_here, put_keys, split_at_key, without_split, Shape, View, Deed, Holder, number_of, place_of, Owns, IsLotAt, owned_by, giving, IsAlone}
use Rattle.xh_records.proofs.Common.{gained, knowing, lost, renewed, AllBelow, AllLots, IsSeat, in_slot}
use Rattle.xh_records.proofs.History.{adds_one}
use Rattle.xh_records.proofs.Lists.{few, below_push, owned_push, among_owned, slot_split, below_split, owned_without, remove_split, below_at, stands}

lots_push : {B : Type 0} (s : Shape) (xs : List (ℕ × Option (LotOf B))) (i : ℕ) (l : LotOf B) → AllLots s xs → IsLotAt s i l → AllLots s (xs ++ (i, Some l) ∷ [])
lots_push s [] i l a h = ((l, refl, h), tt)
lots_push s (x ∷ xs) i l a h = (a.0, lots_push s xs i l a.1 h)

lots_split : {B : Type 0} (s : Shape) (a : List (ℕ × Option (LotOf B))) (x : ℕ × Option (LotOf B)) (b : List (ℕ × Option (LotOf B))) → AllLots s (a ++ x ∷ b)
    → ((l : LotOf B) × (x.1 ≡ Some l) × IsLotAt s x.0 l) × AllLots s (a ++ b)
lots_split s [] x b h = h
lots_split s (y ∷ ys) x b h = grind (arith, nat_tests, lots_split s ys x b h.1)

lots_put : {B : Type 0} (s : Shape) (i : ℕ) (y : LotOf B) (l : List (ℕ × Option (LotOf B))) → IsLotAt s i y → AllLots s l → AllLots s (put i (Some y) l)
lots_put s i y [] is all = tt
lots_put s i y (x ∷ xs) is all = dite (ℕ_discrete x.0 i)
    (λ e. subst (AllLots s) (sym (here_first x.0 i ((i, Some y) ∷ xs) (x ∷ put i (Some y) xs) e)) ((y, refl, is), all.1))
    (λ n. subst (AllLots s) (sym (not_here x.0 i ((i, Some y) ∷ xs) (x ∷ put i (Some y) xs) n)) (all.0, lots_put s i y xs is all.1))

pub lot_here : {B : Type 0} (s : Shape) (front : List (ℕ × Option (LotOf B))) (x : ℕ × Option (LotOf B)) (more : List (ℕ × Option (LotOf B))) → AllLots s (front ++ x ∷ more)
    → (l : LotOf B) × (x.1 ≡ Some l)
lot_here s front x more all = let t = (lots_split s front x more all).0 in (t.0, t.1)

-- every slot of a seat has a lot
pub all_full : {B : Type 0} (s : Shape) (lots : List (ℕ × Option (LotOf B))) → AllLots s lots → (k : ℕ) → Among (keys lots) k → (l : LotOf B) × (in_slot k lots ≡ Some l)
all_full s [] all k h = absurd h
all_full s (y ∷ ys) all k h = dite (ℕ_discrete y.0 k)
    (λ e. (all.0.0, here_first y.0 k y.1 (in_slot k ys) e ∙ all.0.1))
    (λ n. ⊎_elim (λ (e : k ≡ y.0). absurd (n (sym e))) (λ (t : Among (keys ys) k). let u = all_full s ys all.1 k t in (u.0, not_here y.0 k y.1 (in_slot k ys) n ∙ u.1)) h)

-- a slot of a seat, with its lot
pub record Reach {B : Type 0} (process : ℕ) (order : List ℕ) (slots : ℕ) (me : Me (Option (LotOf B)) (View B)) (i : ℕ) (l : LotOf B) : Type 0 where
  pub listed : (order ≡ keys me.1) × Distinct order × ((k : ℕ) × (get_elem? order k ≡ some i))
  pub has : in_slot i me.1 ≡ Some l
  pub lot : IsLotAt me.0.shape i l
  pub owns : Owns me.0 i process
  pub inside : i < slots

module _ {B : Type 0} (process : ℕ) (order : List ℕ) (capacity slots : ℕ) (me : Me (Option (LotOf B)) (View B)) where
  pub not_among : (i : ℕ) → IsSeat process order capacity slots me → ((p : ℕ) → Owns me.0 i p → ⊥) → Among order i → ⊥
  not_among i seat new h = new process (subst (λ (l : List (ℕ × ℕ)). Among l (i, process)) (sym seat.records) (among_owned process order i h))

  pub is_alone : IsSeat process order capacity slots me → IsAlone me.0 process
  is_alone seat = (seat.processes, seat.front)

  -- one more slot has room
  pub has_room : (i : ℕ) → IsSeat process order capacity slots me → i < slots → ((p : ℕ) → Owns me.0 i p → ⊥) → length order < capacity
  has_room i seat inside new =
      let most : length (i ∷ order) ≤ slots = few slots (i ∷ order) (inside, seat.below) (not_among i seat new, seat.distinct) in let room : slots ≤ capacity = seat.room in
      let size : length (i ∷ order) ≡ suc (length order) = refl in omega arith

  pub gains : (i : ℕ) (l : LotOf B) (h : Option Holder) (others : List (Deed B)) → IsSeat process order capacity slots me → i < slots → IsLotAt me.0.shape i l → ((p : ℕ) → Owns me.0 i p → ⊥)
      → IsSeat process (order ++ i ∷ []) capacity slots (gained me.0 i process h l others, me.1 ++ (i, Some l) ∷ [])
  gains i l h others seat inside lot new = grind (arith, nat_tests, keys_push, owned_push, adds_one, lots_push, distinct_push, not_among, below_push)

  pub reaches : (i : ℕ) (l : LotOf B) → IsSeat process order capacity slots me → in_slot i me.1 ≡ Some l → Reach process order slots me i l
  reaches i l seat has =
      let at = stands me.1 i l has in
      let t = split_at_key me.1 at.0 i at.1 in
      let a = t.0 in let b = t.2 in
      let same : order ≡ keys a ++ i ∷ keys b = seat.ordered ∙ ap keys t.3 ∙ keys_append a ((i, t.1) ∷ b) in
      let d = distinct_split (keys a) i (keys b) (subst Distinct same seat.distinct) in
      let is_l : t.1 ≡ Some l = sym (slot_split i t.1 a b d.0) ∙ ap (in_slot i) (sym t.3) ∙ has in
      let is : me.1 ≡ a ++ (i, Some l) ∷ b = t.3 ∙ ap (λ (z : Option (LotOf B)). a ++ (i, z) ∷ b) is_l in
      let mine = (lots_split me.0.shape a (i, Some l) b (subst (AllLots me.0.shape) is seat.lots)).0 in record {
        listed = (seat.ordered, seat.distinct, (at.0, subst (λ (o : List ℕ). get_elem? o at.0 ≡ some i) (sym seat.ordered) at.1));
        has = has;
        lot = subst (IsLotAt me.0.shape i) (let e : Some l ≡ Some mine.0 = mine.1 in let f : l ≡ mine.0 = cc in sym f) mine.2;
        owns = subst (λ (z : List (ℕ × ℕ)). Among z (i, process)) (sym seat.records) (among_owned process order i
            (subst (λ (z : List ℕ). Among z i) (sym same) (among_back (keys a) (i ∷ keys b) i (inl refl))));
        inside = below_at slots (keys a) i (keys b) (subst (AllBelow slots) same seat.below);
      }

  -- the seat without the slot that stands behind k others
  pub loses : (k i : ℕ) (h : Option Holder) (l : LotOf B) (others : List (Deed B)) → IsSeat process order capacity slots me → get_elem? order k ≡ some i
      → IsSeat process (remove order k) capacity slots (lost me.0 i process h l others, without i me.1)
  loses k i h l others seat at =
      let t = split_at_key me.1 k i (subst (λ (o : List ℕ). get_elem? o k ≡ some i) seat.ordered at) in
      let a = t.0 in let b = t.2 in
      let same : order ≡ keys a ++ i ∷ keys b = seat.ordered ∙ ap keys t.3 ∙ keys_append a ((i, t.1) ∷ b) in
      let d = distinct_split (keys a) i (keys b) (subst Distinct same seat.distinct) in
      let rest_is : without i me.1 ≡ a ++ b = ap (without i) t.3 ∙ without_split i t.1 a b d.0 d.1 in
      let order_is : remove order k ≡ keys a ++ keys b = grind (arith, nat_tests, length-keys, remove_split) in
      record {
        processes = seat.processes;
        ordered = order_is ∙ sym (keys_append a b) ∙ ap keys (sym rest_is);
        front = (adds_one (others ++ (giving process (number_of me.0.shape.records i) h, l) ∷ []) (place_of process) me.0.fronts seat.front).1;
        records = ap (without i) (seat.records ∙ ap (owned_by process) same) ∙ owned_without process i (keys a) (keys b) d.0 d.1 ∙ ap (owned_by process) (sym order_is);
        lots = subst (AllLots me.0.shape) (sym rest_is) (lots_split me.0.shape a (i, t.1) b (subst (AllLots me.0.shape) t.3 seat.lots)).1;
        distinct = subst Distinct (sym order_is) d.2;
        below = subst (AllBelow slots) (sym order_is) (below_split slots (keys a) i (keys b) (subst (AllBelow slots) same seat.below));
        room = seat.room;
        small = seat.small;
      }

  pub replaces : (i : ℕ) (y : LotOf B) → IsSeat process order capacity slots me → IsLotAt me.0.shape i y → IsSeat process order capacity slots (me.0, put i (Some y) me.1)
  replaces i y seat is = grind (arith, nat_tests, put_keys, lots_put)

  -- a seat that has seen more
  pub sees : (es : List (Deed B)) → IsSeat process order capacity slots me → IsSeat process order capacity slots (knowing me.0 es, me.1)
  sees es seat = grind (arith, nat_tests, adds_one)

  -- a seat with no slot, of the next generation
  pub grows_old : IsSeat process order capacity slots me → me.1 ≡ [] → IsSeat (process + 32) order capacity slots (renewed me.0, me.1)
  grows_old seat bare = grind (arith, nat_tests)

pub seat_is : {B : Type 0} (process p : ℕ) (a a' : List ℕ) (b b' c c' : ℕ) (d d' : Me (Option (LotOf B)) (View B)) → p ≡ process → a' ≡ a → b' ≡ b → c' ≡ c → d' ≡ d → IsSeat process a b c d
    → IsSeat p a' b' c' d'
seat_is {B} process p a a' b b' c c' d d' ep ea eb ec ed = grind (arith, nat_tests)
