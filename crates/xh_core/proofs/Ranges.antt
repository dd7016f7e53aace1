-- Sums over ranges of numbers.
use Rattle.xh_core.proofs.Common.{List, [], ap, arith, cases_eq, cond, eq-eqb, inl, inr, length, map, ne_eqb, range_with_len, refl, slice_index_or, suc, sum_add, sum_by, sum_by-cons}
use Rattle.xh_core.proofs.Common.{sum_same, sum_zero, sym, zero, ℕ, ◌+◌, ◌-◌, ◌<◌, ◌==◌, ◌∙◌, ◌∷◌, ◌≡◌, ◌≤◌}

-- the terms of the range are the same
pub same_range : (f g : ℕ → ℕ) (from k : ℕ) → ((q : ℕ) → from ≤ q → q < from + k → f q ≡ g q) → sum_by f (range_with_len from k) ≡ sum_by g (range_with_len from k)
same_range f g from zero h = refl
same_range f g from (suc k) h =
    let a : sum_by f (range_with_len from (suc k)) ≡ f from + sum_by f (range_with_len (from + 1) k) = sum_by-cons f from (range_with_len (from + 1) k) in
    let b : sum_by g (range_with_len from (suc k)) ≡ g from + sum_by g (range_with_len (from + 1) k) = sum_by-cons g from (range_with_len (from + 1) k) in
    let e = h from (omega arith) (omega arith) in
    let rest = same_range f g (from + 1) k (λ q l u. h q (omega arith) (omega arith)) in omega (arith, a, b, e, rest)

-- no term of the range is more than nothing
pub zero_after : (f : ℕ → ℕ) (from k : ℕ) → ((q : ℕ) → from ≤ q → f q ≡ 0) → sum_by f (range_with_len from k) ≡ 0
zero_after f from k h = same_range f (λ _. 0) from k (λ q l u. h q l) ∙ sum_zero (range_with_len from k)

-- one term of the range is n, and all others are nothing
pub picked : (n p from k : ℕ) → from ≤ p → p < from + k → sum_by (λ q. cond {A = ℕ} (p == q) n 0) (range_with_len from k) ≡ n
picked n p from zero a b = absurd (omega arith)
picked n p from (suc k) a b =
    let f : ℕ → ℕ = λ q. cond {A = ℕ} (p == q) n 0 in
    let c : sum_by f (range_with_len from (suc k)) ≡ f from + sum_by f (range_with_len (from + 1) k) = sum_by-cons f from (range_with_len (from + 1) k) in
    elim (cases_eq p from) [
      | inl e ↦ (
          let one : f from ≡ n = rw (eq-eqb p from e) refl in
          let rest : sum_by f (range_with_len (from + 1) k) ≡ 0 = zero_after f (from + 1) k (λ q l. rw (ne_eqb p q (λ s. absurd (omega arith))) refl) in
          omega arith)
      | inr d ↦ (
          let one : f from ≡ 0 = rw (ne_eqb p from d) refl in
          let rest : sum_by f (range_with_len (from + 1) k) ≡ n = picked n p (from + 1) k (omega arith) (omega arith) in
          omega arith)
    ]

-- the two sums may change places
pub exchanged : (f : ℕ → ℕ → ℕ) (ps ks : List ℕ) → sum_by (λ p. sum_by (f p) ks) ps ≡ sum_by (λ k. sum_by (λ p. f p k) ps) ks
exchanged f [] ks = sym (sum_zero ks)
exchanged f (p ∷ ps) ks =
    sum_by-cons (λ q. sum_by (f q) ks) p ps ∙ (ap (λ n. sum_by (f p) ks + n) (exchanged f ps ks)
    ∙ (sym (sum_add (f p) (λ k. sum_by (λ q. f q k) ps) ks) ∙ sum_same (λ k. f p k + sum_by (λ q. f q k) ps) (λ k. sum_by (λ q. f q k) (p ∷ ps)) ks (λ k. sym (sum_by-cons (λ q. f q k) p ps))))

pub sum_mapped : {X : Type 0} (g : X → ℕ) (f : ℕ → X) (ks : List ℕ) → sum_by g (map f ks) ≡ sum_by (λ k. g (f k)) ks
sum_mapped g f [] = refl
sum_mapped g f (k ∷ ks) = sum_by-cons g (f k) (map f ks) ∙ (ap (λ n. g (f k) + n) (sum_mapped g f ks) ∙ sym (sum_by-cons (λ q. g (f q)) k ks))

indexed_from : {X : Type 0} (g : X → ℕ) (xs : List X) (d : X) (from : ℕ) → sum_by (λ k. g (slice_index_or xs (k - from) d)) (range_with_len from (length xs)) ≡ sum_by g xs
indexed_from g [] d from = refl
indexed_from g (x ∷ xs) d from =
    let f : ℕ → ℕ = λ k. g (slice_index_or (x ∷ xs) (k - from) d) in
    let first : from - from ≡ 0 = omega arith in
    let here : f from ≡ g x = ap (λ k. g (slice_index_or (x ∷ xs) k d)) first in
    let a : sum_by f (range_with_len from (length (x ∷ xs))) ≡ f from + sum_by f (range_with_len (from + 1) (length xs)) = sum_by-cons f from (range_with_len (from + 1) (length xs)) in
    let next : sum_by f (range_with_len (from + 1) (length xs)) ≡ sum_by (λ k. g (slice_index_or xs (k - (from + 1)) d)) (range_with_len (from + 1) (length xs)) =
    same_range f (λ k. g (slice_index_or xs (k - (from + 1)) d)) (from + 1) (length xs)
    (λ k l u. let e : k - from ≡ suc (k - (from + 1)) = omega (arith, l) in ap (λ j. g (slice_index_or (x ∷ xs) j d)) e) in
    a ∙ (ap (λ n. n + sum_by f (range_with_len (from + 1) (length xs))) here
    ∙ (ap (λ n. g x + n) (next ∙ indexed_from g xs d (from + 1)) ∙ sym (sum_by-cons g x xs)))

-- a sum over a list, index by index
pub indexed : {X : Type 0} (g : X → ℕ) (xs : List X) (d : X) (n : ℕ) → length xs ≡ n → sum_by (λ k. g (slice_index_or xs k d)) (range_with_len 0 n) ≡ sum_by g xs
indexed g xs d n e =
    sum_same (λ k. g (slice_index_or xs k d)) (λ k. g (slice_index_or xs (k - 0) d)) (range_with_len 0 n) (λ k. let z : k ≡ k - 0 = omega arith in ap (λ j. g (slice_index_or xs j d)) z)
    ∙ (ap (λ m. sum_by (λ k. g (slice_index_or xs (k - 0) d)) (range_with_len 0 m)) (sym e) ∙ indexed_from g xs d 0)
