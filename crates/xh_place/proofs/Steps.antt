-- A place's list against what its seat holds, at each change.
use Rattle.xh_place.proofs.Words.{◌≡◌, ◌≢◌, ℕ, ◌+◌, ◌-◌, ◌*◌, ◌/◌, ◌%◌, ◌<◌, ◌≤◌, ⊎_elim, inl, inr, List, [], ◌∷◌, ◌++◌, length, map, refl, sym, ap, ◌∙◌, subst, Bool, true, false, is_some, arith}
use Rattle.xh_place.proofs.Words.{rules}
use Rattle.xh_place.proofs.Words.{length-map, length-append, Some, None, Option, number_of, dite, ℕ_discrete, LotOf, Status, Vacant, Running, Ending, Ended, index_of, Shape, Among, Distinct}
use Rattle.xh_place.proofs.Words.{among_back, among_either, among_front, keys, value_at, put, without, at_key, distinct_push, here_first, keys_push, last_at, last_other, no_key, none_at, put_at}
use Rattle.xh_place.proofs.Words.{put_keys, put_other, without_at, without_other, Held, IsLotOf, IsRecord, IsSeatOf, RecordsOf, with_lots, HasNow, Body, Nothing, fits_in, is_over, is_running}
use Rattle.xh_place.proofs.Words.{AreBlocks, AreWhole, IsBlock, IsQuiet, IsPlace, Lists, PlaceSeen, len_at, lens, less}
use Rattle.xh_core.specs.Headers.{has_end}
use Rattle.xh_place.proofs.Words.{header_of, item_of, option_map}
use Rattle.xh_records.specs.Showing.{IsFull}
use Rattle.std.proofs.Math.Nat.{mul_comm}
use Rattle.std.proofs.lemmas.Nat.{mul-add-lt}
use Rattle.xh_model.proofs.Words.{number_back}
use Rattle.xh_records.specs.inner.Tokens.{AllBelow}
use Rattle.xh_records.proofs.Lists.{few}
use Rattle.xh_place.proofs.Listing.{distinct_less, keys_without, lens_at, lens_last, lens_less, lens_most, lens_same, lens_small, less_stays, less_was}

-- there is room for one more, and no sum is too large
slot_below : (a n r : ℕ) → r / 256 < a → r % 256 < n → index_of n r < a * n
slot_below a n r h k = subst (λ (m : ℕ). index_of n r < m) (mul_comm n a) (mul-add-lt (r / 256) n (r % 256) a h k)

abbrev pub AllRecords : Shape → List ℕ → Type 0
AllRecords s rs = (r : ℕ) → Among rs r → IsRecord s r

pub among_index : (s : Shape) (rs : List ℕ) (r : ℕ) → AllRecords s rs → r % 256 < s.records → Among (map (index_of s.records) rs) (index_of s.records r) → Among rs r
among_index s [] r all inside h = h
among_index s (q ∷ rs) r all inside h = ⊎_elim
    (λ e. inl (sym (number_back s.records r inside) ∙ ap (number_of s.records) e ∙ number_back s.records q (all q (inl refl)).1))
    (λ a. inr (among_index s rs r (λ x b. all x (inr b)) inside a)) h

distinct_index : (s : Shape) (rs : List ℕ) → AllRecords s rs → Distinct rs → Distinct (map (index_of s.records) rs)
distinct_index s [] all d = tt
distinct_index s (r ∷ rs) all d = let rest : AllRecords s rs = λ x b. all x (inr b) in ((λ h. d.0 (among_index s rs r rest (all r (inl refl)).1 h)), distinct_index s rs rest d.1)

below_index : (s : Shape) (rs : List ℕ) → AllRecords s rs → AllBelow (length s.names * s.records) (map (index_of s.records) rs)
below_index s [] all = tt
below_index s (r ∷ rs) all = let here = all r (inl refl) in (slot_below (length s.names) s.records r here.0 here.1, below_index s rs (λ x b. all x (inr b)))

below_all : (s : Shape) (rs : List ℕ) → length s.names ≤ 8 → AllRecords s rs → AllBelow 2048 rs
below_all s [] few all = tt
below_all s (r ∷ rs) few all = let a : r / 256 < length s.names = (all r (inl refl)).0 in let b : r < 2048 = omega arith in (b, below_all s rs few (λ x h. all x (inr h)))

few_records : (s : Shape) (rs : List ℕ) → AllRecords s rs → Distinct rs → length rs ≤ length s.names * s.records
few_records s rs all d = subst (λ (n : ℕ). n ≤ length s.names * s.records) (length-map rs (index_of s.records))
    (few (length s.names * s.records) (map (index_of s.records) rs) (below_index s rs all) (distinct_index s rs all d))

-- a block's length
fit_small : (b : Body) (n : ℕ) → fits_in b n ≡ true → n ≤ 134217728
fit_small Nothing n e = search rules
fit_small b n e = search rules

pub block_small : {s : Shape} {r : ℕ} {l : LotOf Body} → IsBlock s r l → l.len ≤ 134217728
block_small {s} {r} {l} is = fit_small l.body l.len is.full.1

pub quiet_alive : (s : Status) (xs : List ℕ) → (is_over s ≡ true → ⊥) → IsQuiet s xs
quiet_alive Running xs e = tt
quiet_alive Ending xs e = tt
quiet_alive s xs e = absurd (e refl)

-- of no block is none left
quiet_less : (s : Status) (r : ℕ) (xs : List ℕ) → IsQuiet s xs → IsQuiet s (less r xs)
quiet_less Running r xs q = tt
quiet_less Ending r xs q = tt
quiet_less s r xs q = ap (less r) q

-- what a place keeps is of its seat's shape and lots alone
pub now_is : (seat last : Held Body) {lots : List (ℕ × LotOf Body)} {xs : List ℕ} {room total : ℕ} {state : Status} → HasNow seat lots last → IsPlace seat.shape lots xs room total state
    → IsPlace last.shape last.lots xs room total state
now_is seat last {xs} {room} {total} {state} new is = subst (λ (h : Held Body). IsPlace h.shape h.lots xs room total state) (sym new) is

pub now_as : {s : Shape} {lots : List (ℕ × LotOf Body)} {xs ys : List ℕ} {room room' total total' : ℕ} {state : Status} → IsPlace s lots xs room total state → ys ≡ xs → room' ≡ room → total' ≡ total
    → IsPlace s lots ys room' total' state
now_as {s} {lots} {state} is items rooms sums = subst (λ (z : List ℕ × ℕ × ℕ). IsPlace s lots z.0 z.1 z.2 state) (λ i. (sym items i, sym rooms i, sym sums i)) is

pub lot_at : (r : ℕ) (lots : List (ℕ × LotOf Body)) → Among (keys lots) r → (l : LotOf Body) × (value_at r lots ≡ Some l)
lot_at r lots a = go (value_at r lots) refl where
  go : (o : Option (LotOf Body)) → value_at r lots ≡ o → (l : LotOf Body) × (o ≡ Some l)
  go None e = absurd (no_key r lots e a)
  go (Some l) e = (l, refl)

len_one : (r : ℕ) (lots : List (ℕ × LotOf Body)) {l : LotOf Body} → value_at r lots ≡ Some l → len_at (value_at r lots) ≡ l.len
len_one r lots at = ap len_at at

-- a block that a seat has, once it looked
pub there : (all : RecordsOf) (old mid : Held Body) → HasNow old old.lots mid → IsSeatOf all old → AreWhole old.shape old.lots → (r : ℕ) {l : LotOf Body} → value_at r old.lots ≡ Some l
    → (IsSeatOf all mid × IsRecord all.shape r) × ((k : LotOf Body) × (value_at r mid.lots ≡ Some k) × IsLotOf mid.shape r k × IsFull fits_in k)
there all old mid same own whole r {l} at =
    let b = whole r l at in let shape : mid.shape ≡ old.shape = ap (λ (h : Held Body). h.shape) same in (
      ((ap (λ (h : Held Body). h.table) same ∙ own.0, shape ∙ own.1), subst (λ z. IsRecord z r) own.1 b.exists),
      (l, ap (λ (h : Held Body). value_at r h.lots) same ∙ at, subst (λ z. IsLotOf z r l) (sym shape) b.lot, b.full),
    )

-- at a number that is no record's it has none
pub none_there : {s : Shape} (lots : List (ℕ × LotOf Body)) → AreWhole s lots → (r : ℕ) → (IsRecord s r → ⊥) → false ≡ is_some (value_at r lots)
none_there {s} lots whole r out = go (value_at r lots) refl where
  go : (o : Option (LotOf Body)) → value_at r lots ≡ o → false ≡ is_some o
  go None e = refl
  go (Some l) e = absurd (out (whole r l e).exists)

pub some_of : {X : Type 0} (o : Option X) → is_some o ≡ true → (x : X) × (o ≡ Some x)
some_of None e = absurd (cc)
some_of (Some x) e = (x, refl)

module _ {s : Shape} {lots : List (ℕ × LotOf Body)} {xs : List ℕ} {room total : ℕ} {state : Status} (is : IsPlace s lots xs room total state) where
  listed_lot : (r : ℕ) → Among xs r → (l : LotOf Body) × (value_at r lots ≡ Some l)
  listed_lot r a = lot_at r lots (is.lists.held r a)

  listed_record : (r : ℕ) → Among xs r → IsRecord s r
  listed_record r a = let t = listed_lot r a in (is.whole r t.0 t.1).exists

  pub listed_at : (r : ℕ) {l : LotOf Body} → value_at r lots ≡ Some l → Among xs r
  listed_at r {l} at = is.lists.listed r (at_key r l lots at)

  -- how many blocks there are, and their sum
  pub count_bound : length xs ≤ 2048
  count_bound = few 2048 xs (below_all s xs is.room.1 listed_record) is.distinct

  pub total_bound : total ≤ 274877906944
  total_bound = let small = lens_small xs (λ r. value_at r lots) (λ r a. let t = listed_lot r a in
      subst (λ (n : ℕ). n ≤ 134217728) (sym (ap len_at t.1)) (block_small (is.whole r t.0 t.1))) in omega (arith, count_bound, small, is.sum)

  pub enough : (r : ℕ) {l : LotOf Body} → value_at r lots ≡ Some l → l.len ≤ total
  enough r {l} at = omega (arith, lens_most r xs (λ q. value_at q lots) (listed_at r at), len_one r lots at, is.sum)

  pub holds_nothing : is_over state ≡ true → lots ≡ []
  holds_nothing e = none lots (λ r a. go state is.quiet e r (is.lists.listed r a)) where
    go : (t : Status) → IsQuiet t xs → is_over t ≡ true → (r : ℕ) → Among xs r → ⊥
    go Vacant q e r a = subst (λ (l : List ℕ). Among l r) q a
    go Ended q e r a = subst (λ (l : List ℕ). Among l r) q a
    go t q e r a = absurd (cc)

    none : (ls : List (ℕ × LotOf Body)) → ((r : ℕ) → Among (keys ls) r → ⊥) → ls ≡ []
    none [] h = refl
    none (x ∷ ls) h = absurd (h x.0 (inl refl))

  -- a record more, for which there is room
  module _ {r : ℕ} {l : LotOf Body} (good : IsBlock s r l) (fresh : Among (keys lots) r → ⊥) where
    not_listed : Among xs r → ⊥
    not_listed a = fresh (is.lists.held r a)

    pub list_room : length xs < room
    list_room =
        let all : AllRecords s (xs ++ r ∷ []) = λ q a. ⊎_elim (listed_record q) (λ b. ⊎_elim (λ e. subst (IsRecord s) (sym e) good.exists) (λ z. absurd z) b) (among_either xs (r ∷ []) q a) in
        omega (arith, few_records s (xs ++ r ∷ []) all (distinct_push xs r is.distinct not_listed), length-append xs (r ∷ []), is.room.0)

    pub gains : (is_over state ≡ true → ⊥) → IsPlace s (lots ++ (r, l) ∷ []) (xs ++ r ∷ []) room (total + l.len) state
    gains alive =
        let was : ℕ → Option (LotOf Body) = λ q. value_at q lots in let now : ℕ → Option (LotOf Body) = λ q. value_at q (lots ++ (r, l) ∷ []) in
        let here : now r ≡ Some l = last_at r l lots fresh in
        let rest : lens xs now ≡ lens xs was = lens_same xs now was (λ q a. ap len_at (last_other q r l lots (λ e. not_listed (subst (Among xs) (sym e) a)))) in
        let both : keys (lots ++ (r, l) ∷ []) ≡ keys lots ++ r ∷ [] = keys_push lots (r, l) in record {
          lists = record {
            held = λ q a. subst (λ (ks : List ℕ). Among ks q) (sym both)
                (⊎_elim (λ b. among_front (keys lots) (r ∷ []) q (is.lists.held q b)) (λ b. among_back (keys lots) (r ∷ []) q b) (among_either xs (r ∷ []) q a));
            listed = λ q a. ⊎_elim (λ b. among_front xs (r ∷ []) q (is.lists.listed q b)) (λ b. among_back xs (r ∷ []) q b)
                (among_either (keys lots) (r ∷ []) q (subst (λ (ks : List ℕ). Among ks q) both a));
          };
          whole = λ q m at. dite (ℕ_discrete r q)
              (λ e. let same : Some l ≡ Some m = sym here ∙ ap now e ∙ at in let one : l ≡ m = cc in subst (λ (z : ℕ × LotOf Body). IsBlock s z.0 z.1) (λ i. (e i, one i)) good)
              (λ n. is.whole q m (sym (last_other q r l lots n) ∙ at));
          distinct = distinct_push xs r is.distinct not_listed;
          sum = omega (arith, is.sum, rest, lens_last xs r now, ap len_at here);
          room = is.room;
          quiet = quiet_alive state (xs ++ r ∷ []) alive;
        }

  -- a record less
  pub loses : (r : ℕ) {l : LotOf Body} → value_at r lots ≡ Some l → IsPlace s (without r lots) (less r xs) room (total - l.len) state
  loses r {l} at =
      let was : ℕ → Option (LotOf Body) = λ q. value_at q lots in let now : ℕ → Option (LotOf Body) = λ q. value_at q (without r lots) in
      let rest : lens (less r xs) now ≡ lens (less r xs) was = lens_same (less r xs) now was (λ q a. ap len_at (without_other q r lots (less_was r q xs a).1)) in
      let gone : keys (without r lots) ≡ less r (keys lots) = keys_without r lots in record {
        lists = record {
          held = λ q a. let t = less_was r q xs a in subst (λ (ks : List ℕ). Among ks q) (sym gone) (less_stays r q (keys lots) t.1 (is.lists.held q t.0));
          listed = λ q a. let t = less_was r q (keys lots) (subst (λ (ks : List ℕ). Among ks q) gone a) in less_stays r q xs t.1 (is.lists.listed q t.0);
        };
        whole = λ q m a. dite (ℕ_discrete r q)
            (λ e. let none : None ≡ Some m = sym (without_at r lots) ∙ ap now e ∙ a in absurd (cc))
            (λ n. is.whole q m (sym (without_other q r lots n) ∙ a));
        distinct = distinct_less r xs is.distinct;
        sum = omega (arith, is.sum, rest, lens_less r xs was is.distinct (listed_at r at), len_one r lots at);
        room = is.room;
        quiet = quiet_less state r xs is.quiet;
      }

  pub count_room : length xs ≤ room
  count_room = omega (arith, few_records s xs listed_record is.distinct, is.room.0)

  -- one goes to the end of the list
  pub moves : (r : ℕ) {l : LotOf Body} → value_at r lots ≡ Some l → IsPlace s lots (less r xs ++ r ∷ []) room total state
  moves r {l} at =
      let was : ℕ → Option (LotOf Body) = λ q. value_at q lots in let mine : Among xs r = listed_at r at in let ys : List ℕ = less r xs ++ r ∷ [] in record {
        lists = record {
          held = λ q a. ⊎_elim (λ b. is.lists.held q (less_was r q xs b).0) (λ b. ⊎_elim (λ (e : q ≡ r). subst (Among (keys lots)) (sym e) (at_key r l lots at)) (λ z. absurd z) b)
              (among_either (less r xs) (r ∷ []) q a);
          listed = λ q a. dite (ℕ_discrete r q) (λ e. among_back (less r xs) (r ∷ []) q (inl (sym e))) (λ n. among_front (less r xs) (r ∷ []) q (less_stays r q xs n (is.lists.listed q a)));
        };
        whole = is.whole;
        distinct = distinct_push (less r xs) r (distinct_less r xs is.distinct) (λ a. (less_was r r xs a).1 refl);
        sum = omega (arith, is.sum, lens_less r xs was is.distinct mine, lens_last (less r xs) r was);
        room = is.room;
        quiet = go state is.quiet;
      } where
        go : (t : Status) → IsQuiet t xs → IsQuiet t (less r xs ++ r ∷ [])
        go Running q = tt
        go Ending q = tt
        go t q = absurd (subst (λ (l : List ℕ). Among l r) q (listed_at r at))

  -- another lot in the place of one
  pub changes : {r : ℕ} {l m : LotOf Body} {total' : ℕ} → value_at r lots ≡ Some l → IsBlock s r m → total' + l.len ≡ total + m.len → IsPlace s (put r m lots) xs room total' state
  changes {r} {l} {m} {total'} at good sums =
      let was : ℕ → Option (LotOf Body) = λ q. value_at q lots in let now : ℕ → Option (LotOf Body) = λ q. value_at q (put r m lots) in
      let here : now r ≡ Some m = put_at r m l lots at in
      let both = lens_at xs r was now is.distinct (listed_at r at) (λ q n. put_other q r m lots n) in record {
        lists = record {
          held = λ q a. subst (λ (ks : List ℕ). Among ks q) (sym (put_keys r m lots)) (is.lists.held q a);
          listed = λ q a. is.lists.listed q (subst (λ (ks : List ℕ). Among ks q) (put_keys r m lots) a);
        };
        whole = λ q k a. dite (ℕ_discrete r q)
            (λ e. let same : Some m ≡ Some k = sym here ∙ ap now e ∙ a in let one : m ≡ k = cc in subst (λ (z : ℕ × LotOf Body). IsBlock s z.0 z.1) (λ i. (e i, one i)) good)
            (λ n. is.whole q k (sym (put_other q r m lots n) ∙ a));
        distinct = is.distinct;
        sum = omega (arith, is.sum, both, len_one r lots at, ap len_at here, sums);
        room = is.room;
        quiet = is.quiet;
      }

-- what the value of a place keeps
pub are_blocks : {p : PlaceSeen} {room total : ℕ} → IsPlace p.seat.shape p.seat.lots p.list room total p.state → AreBlocks p
are_blocks {p} {room} {total} is = record {
  distinct = is.distinct;
  lists = is.lists;
  whole = λ r l at. (is.whole r l at).full;
  few = count_bound is;
  sum = subst (λ (n : ℕ). n ≤ 274877906944)
      is.sum (total_bound is);
}

pub over_running : (s : Status) → is_running s ≡ true → is_over s ≡ true → ⊥
over_running Running e f = absurd (cc)
over_running s e f = absurd (cc)

-- an endpoint that a place has
pub end_held : (o : Option (LotOf Body)) → has_end (option_map header_of (option_map item_of o)) ≡ true → (l : LotOf Body) × (o ≡ Some l)
end_held None e = absurd (cc)
end_held (Some l) e = (l, refl)
