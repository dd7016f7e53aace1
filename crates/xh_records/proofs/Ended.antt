-- The closed table: its words, the lots at home, and those that the seats had.
use Rattle.xh_records.proofs.Common.{nat_tests, ◌≡◌, ℕ, zero, suc, ◌*◌, ◌<◌, map, length-append, mod-lt, Bool, List, [], ◌∷◌, ◌++◌, length, take, get_or, sym, ap, ◌∙◌, subst, arith, rules}
use Rattle.xh_records.proofs.Common.{length-map, Option, Some, None, slice_get, at_index, some, some-injective, some-ne-none, dite, ℕ_discrete, get_elem?, State, Final, Seen, LotOf, Holder}
use Rattle.xh_records.proofs.Common.{Process, Direction, index_of, Ownership, IsHeldBy, word_of, place_of, number_of, index_back, Among, Distinct, keys, among_back, among_either, among_front}
use Rattle.xh_records.proofs.Common.{at_key, Shape, View, IsLotAt, Sits, ViewFits, Shows, Shown, IsSmall, Held, indices, lot_in, view_of, Ends, EndsAs, IsAway, IsHomeLot}
use Rattle.xh_records.proofs.Common.{spent, slot_at, or_else, IsGathered}
use Rattle.xh_records.proofs.Common.{deeds_by}
use Rattle.std.specs.Option.{option_or, IsSome}
use Rattle.xh_records.proofs.Elements.{either_way, in_range, is_there, only_one, elem_slice, slice_elem, nth_is, among_map}
use Rattle.xh_records.proofs.Keeps.{home_lot, one_holder, same_place, never}
use Rattle.xh_records.proofs.Lists.{among_owned, among_owned_back, none_or_some}
use Rattle.xh_records.proofs.Distinct.{process_in, not_twice, distinct_front, covers}

-- one more seat is gathered
pub gathers : {B : Type 0} (m : ℕ) (seats : List (Held B)) (x : Held B) (v v' : View B) (held held' : List (Option (LotOf B))) → get_elem? seats m ≡ some x → IsGathered (suc m) seats v held
    → v'.processes ≡ v.processes ++ x.process ∷ [] → v'.records ≡ v.records ++ (view_of x).records → v'.fronts ≡ v.fronts ++ (view_of x).fronts
    → length held' ≡ length held
    → ((r : ℕ) → Among (indices x) r → (l : LotOf B) × (lot_in r x ≡ Some l)) → ((r : ℕ) → r < length held → slot_at held' r ≡ or_else (lot_in r x) (slot_at held r)) → IsGathered m seats v' held'
gathers {B} m seats x v v' held held' at old places records lists long has fill = record {
  each = λ p h. grind (arith, nat_tests, only_one, among_either);
  count = let c = old.count in let l = ap length places ∙ length-append v.processes (x.process ∷ []) in omega arith;
  one = λ d i j y z at_y at_z le le' e.
      let d' : Distinct (map place_of (v.processes ++ x.process ∷ [])) = subst (λ (l : List ℕ). Distinct (map place_of l)) places d in
      dite (ℕ_discrete i m)
      (λ a. dite (ℕ_discrete j m) (λ b. a ∙ sym b)
      (λ n. absurd (not_twice v.processes x.process z.process d' (old.sits j z at_z (omega arith)) (ap place_of (sym e ∙ ap (λ (u : Held B). u.process) (same i y a at_y))))))
      (λ k. dite (ℕ_discrete j m)
      (λ b. absurd (not_twice v.processes x.process y.process d' (old.sits i y at_y (omega arith)) (ap place_of (e ∙ ap (λ (u : Held B). u.process) (same j z b at_z)))))
      (λ n. old.one (distinct_front v.processes x.process d') i j y z at_y at_z (omega arith) (omega arith) e));
  sits = λ k y there le. grind (arith, nat_tests, among_back, among_front);
  fronts = λ k y there le. grind (arith, nat_tests, among_back, among_front);
  records = λ r p owns. either_way (among_either v.records (view_of x).records (r, p) (subst (λ (l : List (ℕ × ℕ)). Among l (r, p)) records owns))
      (λ a. let t = old.records r p a in (t.0, t.1, t.2, t.3, omega (arith, t.4), t.5))
      (λ b. let l = has r (among_owned_back x.process (indices x) r p b) in (m, x, l.0, at, omega arith, l.1));
  all_records = λ k r p y there le owns. dite (ℕ_discrete k m)
      (λ e. subst (λ (l : List (ℕ × ℕ)). Among l (r, p)) (sym records) (among_back v.records (view_of x).records (r, p)
      (subst (λ (z : Held B). Among (view_of z).records (r, p)) (same k y e there) owns)))
      (λ n. subst (λ (l : List (ℕ × ℕ)). Among l (r, p)) (sym records) (among_front v.records (view_of x).records (r, p) (old.all_records k r p y there (omega arith) owns)));
  lots = λ r l below e. grind (arith, nat_tests, none_or_some);
  all_lots = λ k r y l there le e below. let inside : r < length held = omega arith in either_way (none_or_some (lot_in r x))
      (λ a. dite (ℕ_discrete k m) (λ q. let f : None ≡ Some l = sym a ∙ ap (λ (z : Held B). lot_in r z) (sym (same k y q there)) ∙ e in absurd (cc))
      (λ n. let t = old.all_lots k r y l there (omega arith) e inside in (t.0, fill r inside ∙ ap (λ (z : Option (LotOf B)). or_else z (slot_at held r)) a ∙ t.1)))
      (λ b. (b.0, fill r inside ∙ ap (λ (z : Option (LotOf B)). or_else z (slot_at held r)) b.1));
}
  where
    same : (k : ℕ) (y : Held B) → k ≡ m → get_elem? seats k ≡ some y → y ≡ x
    same k y e there = some-injective y x (sym there ∙ ap (get_elem? seats) e ∙ at)

-- none is gathered yet
pub gathers_none : {B : Type 0} (seats : List (Held B)) (m : ℕ) (held : List (Option (LotOf B))) → length seats ≡ m → ((r : ℕ) → r < length held → slot_at held r ≡ None)
    → IsGathered m seats spent held
gathers_none {B} seats m held past none_there = record {
  each = λ p h. absurd h;
  count = omega (arith, past);
  one = λ d i j x y at_x at_y le le' e. absurd (let k = in_range seats i x at_x in omega arith);
  sits = λ k y there le. absurd (let i = in_range seats k y there in omega arith);
  fronts = λ k y there le. absurd (let i = in_range seats k y there in omega arith);
  records = λ r p owns. absurd owns;
  all_records = λ k r p y there le owns. absurd (let i = in_range seats k y there in omega arith);
  lots = λ r l below e. let f : None ≡ Some l = sym (none_there r below) ∙ e in absurd (cc);
  all_lots = λ k r y l there le e below. absurd (let i = in_range seats k y there in omega arith);
}

has_index : {B : Type 0} (x : Held B) (k : ℕ) (l : LotOf B) → IsSmall x.shape → lot_in k x ≡ Some l → Among (indices x) k
has_index x k l small e = let n : ℕ = x.shape.records in
    subst (λ (z : ℕ). Among (indices x) z) (index_back n k small.0 small.1) (among_map (index_of n) (keys x.lots) (number_of n k) (at_key (number_of n k) l x.lots e))

pub take_one_more : {A : Type 0} (l : List A) (i : ℕ) (a : A) → get_elem? l i ≡ some a → take (suc i) l ≡ take i l ++ a ∷ []
take_one_more [] i a e = absurd (some-ne-none a (sym e))
take_one_more (x ∷ xs) zero a e = λ k. some-injective x a e k ∷ []
take_one_more {A} (x ∷ xs) (suc i) a e = ap (λ (z : List A). x ∷ z) (take_one_more xs i a e)

module _ {B : Type 0} (fits : B → ℕ → Bool) (s : Shape) (id : ℕ) (v : View B) (ws : List ℕ) (xs : List (Option (LotOf B))) (seats : List (Held B)) (held : List (Option (LotOf B)))
    (final : Final (Seen (Shown fits s) id v) ws xs) (gathered : IsGathered 0 seats v held) (long : length held ≡ length xs) (small : IsSmall s)
    (own : (j : ℕ) (x : Held B) → slice_get seats j ≡ Some x → x.shape ≡ s) (every : length seats ≡ s.places) (sized : length xs ≡ length s.names * s.records) where
  abbrev pub t : State (Option (LotOf B)) (View B)
  t = final.0

  abbrev pub o : Ownership
  o = final.1.0.0

  shown : Shows fits s o t.words t.homes t.views
  shown = final.1.0.1

  fit : ViewFits s o v
  fit = shown.views_fit id v final.1.1

  -- each place has its seat
  all : (q : ℕ) → q < s.places → (j : ℕ) × (x : Held B) × (get_elem? seats j ≡ some x) × (place_of x.process ≡ q)
  all q inside =
      let places : List ℕ = map place_of v.processes in
      let long : length places ≡ s.places = length-map v.processes place_of ∙ (let c = gathered.count in let e = every in omega arith) in
      let below : (x : ℕ) → Among places x → x < s.places = λ x h. let r = process_in v.processes x h in subst (λ (z : ℕ). z < s.places) r.2 (shown.inside id r.0 v final.1.1 r.1).0 in
      let r = process_in v.processes q (covers s.places places fit.places below long q inside) in
      let t = gathered.each r.0 r.1 in
      (t.0, t.1, t.2, ap place_of t.3 ∙ r.2)

  count : length o ≡ length held
  count = sym shown.homes_long ∙ final.3 ∙ sym long

  -- a seat that has a lot has its record
  by_seat : (j k : ℕ) (x : Held B) (l : LotOf B) → get_elem? seats j ≡ some x → lot_in k x ≡ Some l → IsHeldBy o k (Some (Process x.process))
  by_seat j k x l at e =
      let few : IsSmall x.shape = subst IsSmall (sym (own j x (elem_slice seats j x at))) small in
      let mine = gathered.all_records j k x.process x at (omega arith) (among_owned x.process (indices x) k (has_index x k l few e)) in
      (fit.is_owner k x.process mine).0

  -- and a record of a process is in its seat, with the lot that was taken out
  by_process : (k p : ℕ) → IsHeldBy o k (Some (Process p)) → (j : ℕ) × (x : Held B) × (get_elem? seats j ≡ some x) × (x.process ≡ p) × (l : LotOf B) × (lot_in k x ≡ Some l)
      × (slot_at held k ≡ Some l)
  by_process k p is =
      let there = all (place_of p) (shown.placed k p is) in
      let sits_there : Sits v there.1.process = gathered.sits there.0 there.1 there.2 (omega arith) in
      let one : there.1.process ≡ p = shown.latest k p id there.1.process v is final.1.1 sits_there there.3 in
      let sits : Sits v p = subst (λ (q : ℕ). Sits v q) one sits_there in
      let owner = gathered.records k p (fit.owns_all k p is sits) in
      let inside : k < length held = (let i = in_range o k (Some (Process p)) is in let e : length o ≡ length held = count in omega arith) in
      let taken = gathered.all_lots owner.0 k owner.1 owner.2 owner.3 (omega arith) owner.5 inside in
      let from = gathered.lots k taken.0 inside taken.1 in
      let held_by = by_seat from.0 k from.1 taken.0 from.2 from.4 in
      let same : from.1.process ≡ p = sym (same_place p from.1.process (ap word_of (one_holder o k (Some (Process p)) (Some (Process from.1.process)) is held_by))) in
      (from.0, from.1, from.2, same, taken.0, from.4, taken.1)

  not_taken : (k : ℕ) (h : Option Holder) → IsHeldBy o k h → IsAway h → slot_at held k ≡ None
  not_taken k h is free = grind (arith, nat_tests, in_range, count, one_holder, by_seat, none_or_some)

  free_away : IsAway None
  free_away p e = let w : word_of None ≡ word_of (Some (Process p)) = ap word_of e in absurd (omega arith)

  -- the lot of each record
  at_home : (k : ℕ) (h : Option Holder) → IsHeldBy o k h → IsAway h → (l : LotOf B) × (or_else (slot_at held k) (slot_at xs k) ≡ Some l) × (IsLotAt s k l × IsHomeLot fits h l)
  at_home k h is free = let home = shown.homes_are k h is in let lot = home_lot fits s k h home.0 free home.2 in
      (lot.0, ap (λ (z : Option (LotOf B)). or_else z (slot_at xs k)) (not_taken k h is free) ∙ nth_is xs k None (Some lot.0) (final.4 k (Some lot.0) (home.1 ∙ ap some lot.1)), (lot.2, lot.3))

  -- what is in flight lies at home
  flies : (k d : ℕ) (l : LotOf B) → IsHeldBy o k (Some (Direction d)) → or_else (slot_at held k) (slot_at xs k) ≡ Some l → get_elem? t.homes k ≡ some (some (Some l))
  unfolding at_home
  flies k d l is e =
      let home = shown.homes_are k (Some (Direction d)) is in let lot = home_lot fits s k (Some (Direction d)) home.0 (never d) home.2 in
      let same : Some lot.0 ≡ Some l = sym (at_home k (Some (Direction d)) is (never d)).1 ∙ e in let is_l : lot.0 ≡ l = cc in
      home.1 ∙ ap some lot.1 ∙ ap (λ (z : LotOf B). some (some (Some z))) is_l

  pub ended : (k : ℕ) (h : Option Holder) → IsHeldBy o k h → (l : LotOf B) × (or_else (slot_at held k) (slot_at xs k) ≡ Some l) × EndsAs fits s seats k h l
  ended k None is = at_home k None is free_away
  ended k (Some (Process p)) is = let t = by_process k p is in (t.4, ap (λ (z : Option (LotOf B)). or_else z (slot_at xs k)) t.6, (t.0, t.1, elem_slice seats t.0 t.1 t.2, t.3, t.5))
  ended k (Some (Direction d)) is = at_home k (Some (Direction d)) is (never d)

  pub some_lot : (k : ℕ) → k < length xs → (l : LotOf B) × (or_else (slot_at held k) (slot_at xs k) ≡ Some l)
  some_lot k h = let there = is_there o k (let e : length o ≡ length held = count in omega arith) in let t = ended k there.0 there.1 in (t.0, t.1)

  -- what a seat has seen of its place's deeds is all of them
  its_own : (j : ℕ) (x : Held B) → slice_get seats j ≡ Some x → deeds_by (place_of x.process) x.front ≡ deeds_by (place_of x.process) shown.log
  its_own j x at = ((shown.history.tells id v final.1.1).only (place_of x.process) x.front (gathered.fronts j x (slice_elem seats j x at) (omega arith)) (mod-lt x.process (omega arith))).3

  pub ends : (lots : List (LotOf B)) → length lots ≡ length xs → ((k : ℕ) (l : LotOf B) → get_elem? lots k ≡ some l → or_else (slot_at held k) (slot_at xs k) ≡ Some l) → Ends fits s seats ws lots
  ends lots size are = record {
    owners = o;
    log = shown.log;
    leads = shown.history.leads;
    theirs = shown.history.theirs;
    parts = its_own;
    fronts = λ j x at. (shown.history.tells id v final.1.1).begins (place_of x.process) x.front (gathered.fronts j x (slice_elem seats j x at) (omega arith));
    arrives = shown.history.arrives;
    left = λ k d l is at. shown.left k d l is (flies k d l is (are k l (slice_elem lots k l at)));
    holders = shown.holders;
    words_are = sym final.2 ∙ shown.words_are;
    lots_long = size ∙ sym long ∙ sym count;
    all = size ∙ sized;
    lots_are = λ k h l is at. let e = ended k h is in let f : Some e.0 ≡ Some l = sym e.1 ∙ are k l (slice_elem lots k l at) in let same : e.0 ≡ l = cc in subst (EndsAs fits s seats k h) same e.2;
    held = λ j k x l at e. by_seat j k x l (slice_elem seats j x at) e;
    one = λ i j x y at_x at_y e. gathered.one fit.places i j x y (slice_elem seats i x at_x) (slice_elem seats j y at_y) (omega arith) (omega arith) e;
  }

pub or_is : {L : Type 0} (a b : Option L) → option_or a b ≡ or_else a b
or_is a b = grind (arith, nat_tests)

pub read_is : {A : Type 0} (l : List A) (k : ℕ) (x d : A) → k < length l → x ≡ get_or l k x → get_or l k d ≡ x
read_is l k x d h e = nth_is l k d x (at_index l k x h e)

pub is_some : {L : Type 0} (o : Option L) (l : L) → o ≡ Some l → IsSome o
is_some o l e = subst IsSome (sym e) (search rules)
