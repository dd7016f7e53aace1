-- A part that stands in a whole is the whole's, and a changed part makes another whole.
use Rattle.xh_arena.proofs.Common.{nat_tests, ◌≡◌, ℕ, zero, suc, ◌+◌, ◌≤◌, Bool, true, false, ◌&&◌, cond, eqb, List, [], ◌∷◌, ◌++◌, length, set, Option, Some, None, refl, arith, slice_get}
use Rattle.xh_arena.proofs.Common.{and_parts, Decides-eqb, Part, Books, Length, Moved, weigh, listed_parts, lots_from, tallies_from, books, whole, AreOneWhole}
use lib.Pointwise.{pointwise}
use Rattle.std.proofs.lemmas.Slice.Eq.{slice_eq-Decides}
use Rattle.xh_arena.proofs.Weights.{weigh-append}

pub weigh-whole : (h : Part → ℕ) (ls : List ℕ) (ts : List (ℕ × ℕ)) → weigh h (whole ls ts) ≡ weigh h (lots_from 0 ls) + (weigh h (tallies_from 0 ts) + h (books ls ts))
weigh-whole h ls ts = omega (arith, weigh-append h (lots_from 0 ls) (tallies_from 0 ts ++ books ls ts ∷ []), weigh-append h (tallies_from 0 ts) (books ls ts ∷ []))

module _ {X : Type 0} (part : ℕ → X → Part) (h : Part → ℕ) where
  pub weigh-listed : (g : X → ℕ) → ((j : ℕ) (x : X) → h (part j x) ≡ g x) → (i : ℕ) (xs : List X) → weigh h (listed_parts part i xs) ≡ weigh g xs
  weigh-listed g e i [] = refl
  weigh-listed g e i (x ∷ xs) = omega (arith, e i x, weigh-listed g e (suc i) xs)

  pub listed-none : (i : ℕ) (xs : List X) → ((k j : ℕ) (x : X) → j ≡ i + k → slice_get xs k ≡ Some x → h (part j x) ≡ 0) → weigh h (listed_parts part i xs) ≡ 0
  listed-none i [] z = refl
  listed-none i (x ∷ xs) z = omega (arith, z 0 i x (omega arith) refl, listed-none (suc i) xs (λ k j y q e. z (suc k) j y (omega arith) e))

  pub listed-set : (i : ℕ) (xs : List X) (r j : ℕ) (x y : X) → j ≡ i + r → slice_get xs r ≡ Some x
      → weigh h (listed_parts part i (set xs r y)) + h (part j x) ≡ weigh h (listed_parts part i xs) + h (part j y)
  listed-set i [] r j x y q e = absurd (cc)
  listed-set i (m ∷ ms) zero j x y q e = let a : m ≡ x = cc in let b : j ≡ i = omega arith in rw (a, b) (omega arith)
  listed-set i (m ∷ ms) (suc r) j x y q e = omega (arith, listed-set (suc i) ms r j x y (omega arith) e)

-- ---- which parts are not of a whole

abbrev is_length : Option ℕ → ℕ → Bool
is_length None x = false
is_length (Some y) x = eqb y x

abbrev is_moved : Option (ℕ × ℕ) → ℕ → ℕ → Bool
is_moved None x y = false
is_moved (Some u) x y = eqb u.0 x && eqb u.1 y

abbrev same_lists : List ℕ → List ℕ → Bool
same_lists = pointwise eqb

abbrev is_books : List ℕ → List (ℕ × ℕ) → List ℕ → ℕ → ℕ → ℕ → Bool
is_books ls ts ms t b k = same_lists ls ms && (eqb (weigh (λ (u : ℕ × ℕ). u.0) ts) t && (eqb (weigh (λ (u : ℕ × ℕ). u.1) ts) b && eqb (length ts) k))

-- 0 for a part of the whole, and 1 for any other
abbrev foreign : List ℕ → List (ℕ × ℕ) → Part → ℕ
foreign ls ts (Length r x) = cond (is_length (slice_get ls r) x) 0 1
foreign ls ts (Moved j x y) = cond (is_moved (slice_get ts j) x y) 0 1
foreign ls ts (Books ms t b k) = cond (is_books ls ts ms t b k) 0 1

same : (n : ℕ) → eqb n n ≡ true
same n = (Decides-eqb n n).1 refl

whole_own : (ls : List ℕ) (ts : List (ℕ × ℕ)) → weigh (foreign ls ts) (whole ls ts) ≡ 0
whole_own ls ts =
    let lots = listed-none (λ i n. Length i n) (foreign ls ts) 0 ls (λ k j x q e.
    let at : j ≡ k = omega arith in rw (at, e, same x) refl) in
    let tallies = listed-none (λ i t. Moved i t.0 t.1) (foreign ls ts) 0 ts (λ k j u q e.
    let at : j ≡ k = omega arith in rw (at, e, same u.0, same u.1) refl) in
    let own : foreign ls ts (books ls ts) ≡ 0 = grind (arith, nat_tests, slice_eq-Decides, Decides-eqb, same) in
    omega (arith, weigh-whole (foreign ls ts) ls ts, lots, tallies, own)

passes : (b : Bool) → ◌≡◌ {A = ℕ} (cond b 0 1) 0 → b ≡ true
passes b e = grind (arith, nat_tests)

length_from : (o : Option ℕ) (x : ℕ) → is_length o x ≡ true → o ≡ Some x
length_from o x e = grind (arith, nat_tests, Decides-eqb)

moved_from : (o : Option (ℕ × ℕ)) (x y : ℕ) → is_moved o x y ≡ true → o ≡ Some (x, y)
moved_from o x y e = grind (arith, nat_tests, and_parts, eqb, Decides-eqb)

-- of parts that are one whole with others, each is of that whole
module _ (v os : List Part) (f : AreOneWhole v os) where
  own : (p : Part) → foreign f.0 f.1 p ≤ weigh (foreign f.0 f.1) v → foreign f.0 f.1 p ≡ 0
  own p l = omega (arith, f.2 (foreign f.0 f.1), whole_own f.0 f.1)

  pub lot_stands : (r x : ℕ) → ((h : Part → ℕ) → h (Length r x) ≤ weigh h v) → slice_get f.0 r ≡ Some x
  lot_stands r x l = length_from (slice_get f.0 r) x (passes _ (own (Length r x) (l (foreign f.0 f.1))))

  pub tally_stands : (j x y : ℕ) → ((h : Part → ℕ) → h (Moved j x y) ≤ weigh h v) → slice_get f.1 j ≡ Some (x, y)
  tally_stands j x y l = moved_from (slice_get f.1 j) x y (passes _ (own (Moved j x y) (l (foreign f.0 f.1))))

  pub books_stand : (ms : List ℕ) (t b k : ℕ) → ((h : Part → ℕ) → h (Books ms t b k) ≤ weigh h v) → books f.0 f.1 ≡ Books ms t b k
  books_stand ms t b k l =
      let p = and_parts (same_lists f.0 ms) _ (passes (is_books f.0 f.1 ms t b k) (own (Books ms t b k) (l (foreign f.0 f.1)))) in
      let q = and_parts (eqb (weigh (λ (u : ℕ × ℕ). u.0) f.1) t) _ p.1 in
      let r = and_parts (eqb (weigh (λ (u : ℕ × ℕ). u.1) f.1) b) (eqb (length f.1) k) q.1 in
      λ i. Books ((slice_eq-Decides Decides-eqb f.0 ms (same_lists f.0 ms) refl).0 p.0 i) ((Decides-eqb _ t).0 q.0 i) ((Decides-eqb _ b).0 r.0 i) ((Decides-eqb _ k).0 r.1 i)
