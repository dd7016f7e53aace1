-- What the places list of the records, and what they own.
use Rattle.xh_books.proofs.Common.{Body, LotOf, blocks_of, inl, inr, ⊎_elim}
use Rattle.xh_place.specs.Bodies.{bytes}
use Rattle.xh_place.specs.Places.{item_of, lens as sum_at, shown}
use Rattle.std.specs.Prelude.{option_map, unwrap_or}
use Rattle.xh_books.proofs.Common.{All, All-tail, Among, Distinct, Item, List, None, Option, PlaceSeen, Some, [], ap, arith, below_get, bytes_in_flight, bytes_owned, cond, dite, false}
use Rattle.xh_books.proofs.Common.{false_from_ne_true, index_back, index_of, is_listed, is_some, keys, length, nat_tests, none_at, number_back, number_of, picked, range_with_len, refl, same_Some}
use Rattle.xh_books.proofs.Common.{slice_get, subst, suc, sum, sum_add, sum_by, sum_by-cons, sum_same, sum_zero, sym, total_of, true, value_at, value_here, value_there, ℕ, ◌%◌, ◌+◌, ◌<◌, ◌==◌}
use Rattle.xh_books.proofs.Common.{◌||◌, ◌∙◌, ◌∷◌, ◌≡◌, ◌≢◌, ◌≤◌}
use Rattle.xh_model.proofs.Keyed.{at_key}
use native.Mathlib.Decide.{ℕ_discrete}

-- ---- the blocks of a place, by its list and its lots

abbrev pub item_in : Option (LotOf Body) → Item
item_in o = unwrap_or (option_map item_of o) (record { len = 0; content = bytes [] })

-- what stands in the list is a lot's block
pub shown_at : (lots : List (ℕ × LotOf Body)) (rs : List ℕ) (r : ℕ) (x : Item) → value_at r (shown lots rs) ≡ Some x → Among rs r × (x ≡ item_in (value_at r lots))
shown_at lots [] r x h = absurd (cc)
shown_at lots (q ∷ rs) r x h =
    dite (ℕ_discrete q r)
    (λ e. let here = sym (value_here r (q, item_in (value_at q lots)) (shown lots rs) e) ∙ h in let one : item_in (value_at q lots) ≡ x = cc in
    (inl (sym e), sym one ∙ ap (λ (k : ℕ). item_in (value_at k lots)) e))
    (λ ne. let later = shown_at lots rs r x (sym (value_there r (q, item_in (value_at q lots)) (shown lots rs) ne) ∙ h) in (inr later.0, later.1))

pub at_shown : (lots : List (ℕ × LotOf Body)) (rs : List ℕ) (r : ℕ) → Among rs r → value_at r (shown lots rs) ≡ Some (item_in (value_at r lots))
at_shown lots [] r h = absurd h
at_shown lots (q ∷ rs) r h =
    dite (ℕ_discrete q r)
    (λ e. value_here r (q, item_in (value_at q lots)) (shown lots rs) e ∙ ap (λ (k : ℕ). Some (item_in (value_at k lots))) e)
    (λ ne. value_there r (q, item_in (value_at q lots)) (shown lots rs) ne ∙ at_shown lots rs r (⊎_elim (λ (e : r ≡ q). absurd (ne (sym e))) (λ (a : Among rs r). a) h))

abbrev sum_of : List (ℕ × Item) → ℕ
sum_of [] = 0
sum_of (b ∷ bs) = b.1.len + sum_of bs

shown_sum : (lots : List (ℕ × LotOf Body)) (rs : List ℕ) → sum_of (shown lots rs) ≡ sum_at rs (λ r. value_at r lots)
shown_sum lots [] = refl
shown_sum lots (r ∷ rs) = λ i. one (value_at r lots) i + shown_sum lots rs i
  where
    one : (o : Option (LotOf Body)) → (item_in o).len ≡ unwrap_or (option_map (λ (l : LotOf Body). l.len) o) 0
    one None = refl
    one (Some l) = refl

shown_keys : (lots : List (ℕ × LotOf Body)) (rs : List ℕ) → keys (shown lots rs) ≡ rs
shown_keys lots [] = refl
shown_keys lots (r ∷ rs) = ap (λ (qs : List ℕ). r ∷ qs) (shown_keys lots rs)

-- ---- what the places list

-- the place at the index j lists the record r, and this is its block
abbrev pub ListsAt : List PlaceSeen → ℕ → ℕ → Item → Type 0
ListsAt ps j r x = (p : PlaceSeen) × (slice_get ps j ≡ Some p) × (value_at r (blocks_of p) ≡ Some x)

pub listed_at : (ps : List PlaceSeen) (r : ℕ) → is_listed r ps ≡ true → (j : ℕ) × (x : Item) × ListsAt ps j r x
listed_at [] r h = absurd (cc)
listed_at (p ∷ ps) r h = go (value_at r (blocks_of p)) refl (listed_at ps r) h
  where
    go : (o : Option Item) → value_at r (blocks_of p) ≡ o → (is_listed r ps ≡ true → (j : ℕ) × (x : Item) × ListsAt ps j r x) → (is_some o || is_listed r ps) ≡ true → (j : ℕ) × (x : Item)
        × ListsAt (p ∷ ps) j r x
    go (Some x) e later h = (0, x, (p, refl, e))
    go None e later h = let t = later h in (suc t.0, t.1, t.2)

abbrev len_of : Option Item → ℕ
len_of None = 0
len_of (Some x) = x.len

-- what a place lists of all records
total : (n count : ℕ) (bs : List (ℕ × Item)) → 0 < n → n ≤ 256 → Distinct (keys bs) → ((r : ℕ) (x : Item) → value_at r bs ≡ Some x → (r % 256 < n) × (index_of n r < count))
    → sum_by (λ k. len_of (value_at (number_of n k) bs)) (range_with_len 0 count) ≡ sum_of bs
total n count [] some small d inside = sum_zero (range_with_len 0 count)
total n count (b ∷ bs) some small d inside =
    let ks = range_with_len 0 count in
    let rest = total n count bs some small d.1 (λ r x e. inside r x (value_there r b bs (λ same. d.0 (subst (Among (keys bs)) (sym same) (at_key r x bs e))) ∙ e)) in
    let one = picked b.1.len (index_of n b.0) 0 count (omega arith) (omega (arith, mine.1)) in
    sum_same _ _ ks each ∙ sum_add (λ k. cond {A = ℕ} (index_of n b.0 == k) b.1.len 0) (λ k. len_of (value_at (number_of n k) bs)) ks ∙ (λ i. one i + rest i)
  where
    mine : (b.0 % 256 < n) × (index_of n b.0 < count)
    mine = inside b.0 b.1 (value_here b.0 b bs refl)

    each : (k : ℕ) → len_of (value_at (number_of n k) (b ∷ bs)) ≡ cond (index_of n b.0 == k) b.1.len 0 + len_of (value_at (number_of n k) bs)
    each k =
        let back = index_back n k some small in let forth = number_back n b.0 mine.0 in
        dite (ℕ_discrete (index_of n b.0) k)
        (λ e. let here : number_of n k ≡ b.0 = ap (number_of n) (sym e) ∙ forth in let none = none_at b.0 bs d.0 in grind (arith, nat_tests, here, none, value_here b.0 b bs refl))
        (λ ne. let there : b.0 ≢ number_of n k = λ e. ne (ap (index_of n) e ∙ back) in grind (arith, nat_tests, value_there (number_of n k) b bs there))

none_listed : (n k : ℕ) (lens : List ℕ) → sum lens ≡ bytes_in_flight [] n k lens
none_listed n k [] = refl
none_listed n k (m ∷ ms) = omega (arith, sum_by-cons (λ x. x) m ms, none_listed n (k + 1) ms)

-- what one place more lists is no longer among the others
one_place : (p : PlaceSeen) (ps : List PlaceSeen) (n k : ℕ) (lens : List ℕ)
    → ((i j m : ℕ) (x : Item) → j ≡ k + i → slice_get lens i ≡ Some m → value_at (number_of n j) (blocks_of p) ≡ Some x → (x.len ≡ m) × (is_listed (number_of n j) ps ≡ false))
    → bytes_in_flight ps n k lens ≡ sum_by (λ j. len_of (value_at (number_of n j) (blocks_of p))) (range_with_len k (length lens)) + bytes_in_flight (p ∷ ps) n k lens
one_place p ps n k [] each = refl
one_place p ps n k (m ∷ ms) each =
    let rest = one_place p ps n (k + 1) ms (λ i j x y e at. each (suc i) j x y (omega arith) at) in
    omega (arith, go (value_at (number_of n k) (blocks_of p)) refl, rest, sum_by-cons (λ j. len_of (value_at (number_of n j) (blocks_of p))) k (range_with_len (k + 1) (length ms)))
  where
    go : (o : Option Item) → value_at (number_of n k) (blocks_of p) ≡ o → cond {A = ℕ} (is_listed (number_of n k) ps) 0 m ≡ len_of o + cond (is_some o || is_listed (number_of n k) ps) 0 m
    go None e = omega arith
    go (Some x) e = let is = each 0 k m x (omega arith) refl e in rw is.1 (omega (arith, is.0))

-- all lengths are those that the places own, and those of the records in no list
pub all_lists : (ps : List PlaceSeen) (n : ℕ) (lens : List ℕ) → 0 < n → n ≤ 256 → All (λ p. Distinct p.list) ps
    → ((j r : ℕ) (x : Item) → ListsAt ps j r x → (slice_get lens (index_of n r) ≡ Some x.len) × (r % 256 < n))
    → ((i j r : ℕ) (x y : Item) → ListsAt ps i r x → ListsAt ps j r y → i ≡ j)
    → sum lens ≡ bytes_owned ps + bytes_in_flight ps n 0 lens
all_lists [] n lens some small distinct len one = omega (arith, none_listed n 0 lens)
all_lists (p ∷ ps) n lens some small distinct len one =
    let rest = all_lists ps n lens some small (All-tail (λ (q : PlaceSeen). Distinct q.list) p ps distinct) (λ j r x at. len (suc j) r x at)
    (λ i j r x y a b. let e = one (suc i) (suc j) r x y a b in omega arith) in
    let once = subst Distinct (sym (shown_keys p.seat.lots p.list)) (distinct 0 p (omega arith)) in
    let mine = total n (length lens) (blocks_of p) some small once (λ r x at. let is = len 0 r x (p, refl, at) in (is.1, below_get lens (index_of n r) x.len is.0)) in
    let step = one_place p ps n 0 lens (λ i j m x e at v. let z : j ≡ i = omega arith in let here : ListsAt (p ∷ ps) 0 (number_of n j) x = (p, refl, v) in (
      same_Some x.len m (sym (len 0 (number_of n j) x here).0 ∙ ap (slice_get lens) (index_back n j some small ∙ z) ∙ at),
      false_from_ne_true (is_listed (number_of n j) ps) (λ h.
          let t = listed_at ps (number_of n j) h in let two : 0 ≡ suc t.0 = one 0 (suc t.0) (number_of n j) x t.1 here t.2 in absurd (omega arith)),
    )) in omega (arith, rest, mine, shown_sum p.seat.lots p.list, step, sum_by-cons total_of p ps)
