-- The lines of what is in flight: what they add up to.
use Rattle.xh_books.proofs.Common.{All, All-cons, All-filter, All-map, All-nil, All-tail, AreFlightLines, DIRECTIONS, Direction, FlightLine, Holder, IsHolder, IsSomeAnd, List, None, Option}
use Rattle.xh_books.proofs.Common.{PlaceSeen, Process, Some, Stands, [], ap, arith, bytes_in_flight, common_steps, cond, count_by, filter, filter_passes, flight_line, flight_lines, get_or}
use Rattle.xh_books.proofs.Common.{is_listed, is_some, length, list_any_at, ltb-true, map, nat_lt, nat_tests, number_of, picked, range_with_len, refl, slice_get, suc, sum_by, sum_by-cons}
use Rattle.xh_books.proofs.Common.{sum_add, sum_same, sum_zero, sym, true, value_at, word_of, zip, ℕ, ◌*◌, ◌+◌, ◌<◌, ◌==◌, ◌∙◌, ◌∷◌, ◌≡◌, ◌≤◌}
use Rattle.xh_books.proofs.Common.{blocks_of}
use Rattle.std.proofs.lemmas.List.{FromFn.get_or-map-range_with_len, FromFn.get_or-range_with_len, FromFn.length-map-range_with_len, FromFn.length-range_with_len, Kept.AllPairs-filter}

-- ---- what the lines add up to

-- the bytes that a record has on a direction
abbrev on : ℕ × ℕ → ℕ → ℕ
on r d = cond (r.0 == 2 + 4 * d) r.1 0

-- a record on a direction has bytes
abbrev IsFull : ℕ × ℕ → Type 0
IsFull r = (d : ℕ) → r.0 ≡ 2 + 4 * d → 0 < r.1

-- so a line has bytes where it has records, and only there
some_bytes : (d : ℕ) (all : List (ℕ × ℕ)) → All IsFull all → count_by (λ r. r.0 == 2 + 4 * d) all ≤ sum_by (λ r. on r d) all
some_bytes d [] full = omega arith
some_bytes d (r ∷ all) full = grind (arith, common_steps, nat_tests, full 0 r (omega arith) d, some_bytes d all (All-tail IsFull r all full))

no_bytes : (d : ℕ) (all : List (ℕ × ℕ)) → count_by (λ r. r.0 == 2 + 4 * d) all ≡ 0 → sum_by (λ r. on r d) all ≡ 0
no_bytes d [] none = refl
no_bytes d (r ∷ all) none = grind (arith, common_steps, nat_tests, no_bytes d all)

-- the lines without records add nothing
over_all : (all : List (ℕ × ℕ)) (ds : List ℕ) → sum_by (λ l. l.bytes) (filter (λ l. nat_lt 0 l.blocks) (map (flight_line all) ds)) ≡ sum_by (λ d. sum_by (λ r. on r d) all) ds
over_all all [] = refl
over_all all (d ∷ ds) = grind (arith, common_steps, nat_tests, no_bytes d all, over_all all ds)

-- the two sums may change places
exchanged : {X : Type 0} (f : X → ℕ → ℕ) (xs : List X) (ks : List ℕ) → sum_by (λ k. sum_by (λ x. f x k) xs) ks ≡ sum_by (λ x. sum_by (f x) ks) xs
exchanged f [] ks = sum_zero ks
exchanged f (x ∷ xs) ks =
    sum_same _ _ ks (λ k. sum_by-cons (λ y. f y k) x xs) ∙ sum_add (f x) (λ k. sum_by (λ y. f y k) xs) ks
    ∙ ap (λ n. sum_by (f x) ks + n) (exchanged f xs ks) ∙ sym (sum_by-cons (λ y. sum_by (f y) ks) x xs)

-- all lines of records of which those that are in flight have bytes
pub are_lines : (all : List (ℕ × ℕ)) → All IsFull all → AreFlightLines (sum_by (λ r. sum_by (on r) (range_with_len 0 DIRECTIONS)) all) (flight_lines all)
are_lines all full = record {
  rising = AllPairs-filter (λ (a b : FlightLine). a.direction < b.direction) (λ l. nat_lt 0 l.blocks) every
      (λ i j d below inside.
      let long = length-map-range_with_len (flight_line all) 0 128 in
      let a = get_or-map-range_with_len (flight_line all) 0 128 i i d (omega arith) (omega arith) in
      let b = get_or-map-range_with_len (flight_line all) 0 128 j j d (omega arith) (omega arith) in
      omega (arith, below, ap (λ (l : FlightLine). l.direction) a, ap (λ (l : FlightLine). l.direction) b));
  each = λ k d inside.
      let some = filter_passes (λ (l : FlightLine). nat_lt 0 l.blocks) every k d inside in
      let bytes = All-filter (λ (l : FlightLine). nat_lt 0 l.blocks) (λ (l : FlightLine). (l.direction < DIRECTIONS) × (l.blocks ≤ l.bytes)) every
      (All-map (λ (l : FlightLine). (l.direction < DIRECTIONS) × (l.blocks ≤ l.bytes)) (flight_line all) (range_with_len 0 128)
      (λ i e i_in. let low : i < 128 = omega (arith, i_in, length-range_with_len 0 128) in (omega (arith, low, get_or-range_with_len 0 128 i e low), some_bytes _ all full))) k d inside in
      let blocks = ltb-true 0 (get_or (flight_lines all) k d).blocks some in (bytes.0, blocks, omega (arith, blocks, bytes.1));
  sum = sym (over_all all (range_with_len 0 DIRECTIONS) ∙ exchanged on all (range_with_len 0 DIRECTIONS));
}
  where
    every : List FlightLine
    every = map (flight_line all) (range_with_len 0 DIRECTIONS)

-- ---- where the records stand

pub there_is : {A : Type 0} (o : Option A) (P : A → Type 0) → IsSomeAnd o P → (x : A) × (o ≡ Some x) × P x
there_is None P h = absurd h
there_is (Some x) P h = (x, refl, h)

-- a record in flight has bytes, and is one of those in no list
one_flying : (ps : List PlaceSeen) (r m : ℕ) (h : Option Holder) → IsHolder h → Stands ps r m h
    → IsFull (word_of h, m) × (sum_by (on (word_of h, m)) (range_with_len 0 DIRECTIONS) ≡ cond (is_listed r ps) 0 m)
one_flying ps r m None holder is =
    ((λ d e. absurd (omega arith)), sum_same (on (0, m)) (λ d. 0) (range_with_len 0 DIRECTIONS) (λ d. grind (arith, nat_tests)) ∙ sum_zero (range_with_len 0 DIRECTIONS) ∙ rw (is.1, is.0) refl)
one_flying ps r m (Some (Direction d)) holder is = (
  (λ _ _. is.0),
  sum_same (on (2 + 4 * d, m)) (λ q. cond {A = ℕ} (d == q) m 0) (range_with_len 0 DIRECTIONS) (λ q. grind (arith, nat_tests)) ∙ picked m d 0 DIRECTIONS (omega arith) (omega arith) ∙ rw is.1 refl,
)
one_flying ps r m (Some (Process p)) holder is =
    let q = is.1 in
    let listed : is_listed r ps ≡ true = list_any_at (λ x. is_some (value_at r (blocks_of x))) ps q.0 q.1 q.2 (ap (λ (x : PlaceSeen). is_some (value_at r (blocks_of x))) q.3
    ∙ ap is_some (there_is (value_at r (blocks_of q.1)) (λ b. b.len ≡ m) q.4.1).1) in
    ((λ _ _. is.0), sum_same (on (1 + 4 * p, m)) (λ d. 0) (range_with_len 0 DIRECTIONS) (λ d. grind (arith, nat_tests)) ∙ sum_zero (range_with_len 0 DIRECTIONS) ∙ rw listed refl)

pub all_flying : (ps : List PlaceSeen) (n k : ℕ) (owners : List (Option Holder)) (lens : List ℕ) → length owners ≡ length lens
    → ((i j m : ℕ) (h : Option Holder) → j ≡ k + i → slice_get lens i ≡ Some m → slice_get owners i ≡ Some h → IsHolder h × Stands ps (number_of n j) m h)
    → All IsFull (zip (map word_of owners) lens) × (sum_by (λ r. sum_by (on r) (range_with_len 0 DIRECTIONS)) (zip (map word_of owners) lens) ≡ bytes_in_flight ps n k lens)
all_flying ps n k [] [] e each = (All-nil IsFull, refl)
all_flying ps n k (h ∷ hs) (m ∷ ms) e each =
    let is = each 0 k m h (omega arith) refl refl in let one = one_flying ps (number_of n k) m h is.0 is.1 in
    let rest = all_flying ps n (k + 1) hs ms (omega arith) (λ i j x o e a b. each (suc i) j x o (omega arith) a b) in (
      All-cons IsFull (word_of h, m) (zip (map word_of hs) ms) one.0 rest.0,
      sum_by-cons (λ r. sum_by (on r) (range_with_len 0 DIRECTIONS)) (word_of h, m) (zip (map word_of hs) ms) ∙ (λ i. one.1 i + rest.1 i),
    )
all_flying ps n k owners lens e each = absurd (omega arith)
