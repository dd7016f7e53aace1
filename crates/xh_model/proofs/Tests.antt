-- What is the same of two covers that pass a test at the same places.
use Rattle.std.proofs.Common.{◌≡◌, ℕ, zero, suc, ◌+◌, ◌-◌, ◌*◌, ◌<◌, ◌≤◌, List, [], ◌∷◌, ◌++◌, Bool, true, false, cond, refl, sym, ap, ◌∙◌, arith, take, drop, replicate, length, map, Option, Some}
use Rattle.std.proofs.Common.{None}
use Rattle.std.specs.Prelude.{count_by, slice_index_or}
use Rattle.std.specs.List.{position_or_len}
use Rattle.std.proofs.lemmas.Bool.{eqb-true}
use Rattle.std.proofs.lemmas.Bool.Decides.{nat_tests}
use Rattle.std.proofs.lemmas.List.{map-append, length-map}
use Rattle.std.proofs.lemmas.List.Sums.{sum_by-cons, sum_by-append}
use Rattle.std.proofs.lemmas.List.Folds.{sum_by-replicate}
use Rattle.xh_model.specs.Cover.{IsFree, SameRun, is_of, length_of, start_of, run_of, carved, cut_past}

tests_count : (p : Option ℕ → Bool) (xs : List (Option ℕ)) → count_by p xs ≡ count_by (λ (b : Bool). b) (map p xs)
tests_count p [] = refl
tests_count p (x ∷ xs) = sum_by-cons (λ y. cond (p y) 1 0) x xs ∙ (ap (λ n. cond (p x) 1 0 + n) (tests_count p xs) ∙ sym (sum_by-cons (λ (b : Bool). cond b 1 0) (p x) (map p xs)))

pub same_count : (p : Option ℕ → Bool) (xs ys : List (Option ℕ)) → map p xs ≡ map p ys → count_by p xs ≡ count_by p ys
same_count p xs ys e = tests_count p xs ∙ (ap (λ bs. count_by (λ (b : Bool). b) bs) e ∙ sym (tests_count p ys))

tests_start : (p : Option ℕ → Bool) (xs : List (Option ℕ)) → position_or_len p xs ≡ position_or_len (λ (b : Bool). b) (map p xs)
tests_start p [] = refl
tests_start p (x ∷ xs) = rw (tests_start p xs) refl

same_start : (p : Option ℕ → Bool) (xs ys : List (Option ℕ)) → map p xs ≡ map p ys → position_or_len p xs ≡ position_or_len p ys
same_start p xs ys e = tests_start p xs ∙ (ap (λ bs. position_or_len (λ (b : Bool). b) bs) e ∙ sym (tests_start p ys))

pub same_run : (q : ℕ) (xs ys : List (Option ℕ)) → map (is_of q) ys ≡ map (is_of q) xs → SameRun q xs ys
unfolding run_of
same_run q xs ys e =
    let n : length_of q ys ≡ length_of q xs = same_count (is_of q) ys xs e in
    let s : start_of q ys ≡ start_of q xs = same_start (is_of q) ys xs e in (rw (n, s) refl, n)

pub same_length : (xs ys : List (Option ℕ)) → map (λ _. true) xs ≡ map (λ _. true) ys → length xs ≡ length ys
same_length xs ys e = sym (length-map xs (λ _. true)) ∙ (ap length e ∙ length-map ys (λ _. true))

-- ---- a carving

-- the bytes of nothing that are carved, in their cover
split : (at n : ℕ) (cover : List (Option ℕ)) → at + n ≤ length cover → ((i : ℕ) → at ≤ i → i < at + n → slice_index_or cover i None ≡ None) →
    take at cover ++ (replicate n None ++ drop (at + n) cover) ≡ cover
split zero zero cover l h = refl
split zero (suc n) [] l h = absurd (omega arith)
split zero (suc n) (x ∷ xs) l h =
    let more : 0 + suc n ≡ suc (0 + n) = omega arith in
    let rest : replicate n None ++ drop (0 + n) xs ≡ xs = split zero n xs (omega arith) (λ i a b. h (suc i) (omega arith) (omega arith)) in
    let e : x ≡ None = h 0 (omega arith) (omega arith) in
    rw (more, e) (ap (λ ys. None ∷ ys) rest)
split (suc at) n [] l h = absurd (omega arith)
split (suc at) n (x ∷ xs) l h =
    let more : suc at + n ≡ suc (at + n) = omega arith in
    rw more (ap (λ ys. x ∷ ys) (split at n xs (omega arith) (λ i a b. h (suc i) (omega arith) (omega arith))))

pub free_split : (at n : ℕ) (cover : List (Option ℕ)) → IsFree n cover at → take at cover ++ (replicate n None ++ drop (at + n) cover) ≡ cover
free_split at n cover f = split at n cover f.there f.free

map-replicate : (p : Option ℕ → Bool) (n : ℕ) (x : Option ℕ) → map p (replicate n x) ≡ replicate n (p x)
map-replicate p zero x = refl
map-replicate p (suc n) x = ap (λ bs. p x ∷ bs) (map-replicate p n x)

map_three : (p : Option ℕ → Bool) (xs zs : List (Option ℕ)) (n : ℕ) (x : Option ℕ) → map p (xs ++ (replicate n x ++ zs)) ≡ map p xs ++ (replicate n (p x) ++ map p zs)
map_three p xs zs n x = map-append p xs (replicate n x ++ zs) ∙ ap (λ bs. map p xs ++ bs) (map-append p (replicate n x) zs ∙ ap (λ bs. bs ++ map p zs) (map-replicate p n x))

-- a test that tells the record from nothing nowhere
pub carved_tests : (p : Option ℕ → Bool) (r at n : ℕ) (cover : List (Option ℕ)) → IsFree n cover at → p (Some r) ≡ p None → map p (carved r at n cover) ≡ map p cover
unfolding carved
carved_tests p r at n cover f e =
    map_three p (take at cover) (drop (at + n) cover) n (Some r)
    ∙ (ap (λ b. map p (take at cover) ++ (replicate n b ++ map p (drop (at + n) cover))) e
    ∙ (sym (map_three p (take at cover) (drop (at + n) cover) n None) ∙ ap (map p) (free_split at n cover f)))

count_three : (p : Option ℕ → Bool) (xs zs : List (Option ℕ)) (n : ℕ) (x : Option ℕ) → count_by p (xs ++ (replicate n x ++ zs)) ≡ count_by p xs + (n * cond (p x) 1 0 + count_by p zs)
count_three p xs zs n x =
    let c : Option ℕ → ℕ = λ y. cond (p y) 1 0 in
    sum_by-append c xs (replicate n x ++ zs) ∙ ap (λ k. count_by p xs + k) (sum_by-append c (replicate n x) zs ∙ ap (λ k. k + count_by p zs) (sum_by-replicate c n x))

-- a test that the record passes and nothing doesn't
pub carved_count : (p : Option ℕ → Bool) (r at n : ℕ) (cover : List (Option ℕ)) → IsFree n cover at → p (Some r) ≡ true → p None ≡ false →
    count_by p (carved r at n cover) ≡ count_by p cover + n
unfolding carved
carved_count p r at n cover f some none =
    let after : count_by p (carved r at n cover) ≡ count_by p (take at cover) + (n * 1 + count_by p (drop (at + n) cover)) =
    rw some at (count_three p (take at cover) (drop (at + n) cover) n (Some r)) in
    let before : count_by p (take at cover ++ (replicate n None ++ drop (at + n) cover)) ≡ count_by p (take at cover) + (n * 0 + count_by p (drop (at + n) cover)) =
    rw none at (count_three p (take at cover) (drop (at + n) cover) n None) in
    let same : count_by p (take at cover ++ (replicate n None ++ drop (at + n) cover)) ≡ count_by p cover = ap (count_by p) (free_split at n cover f) in
    omega (arith, after, before, same)

-- ---- a cut

is_entry : (r : ℕ) (x : Option ℕ) → is_of r x ≡ true → x ≡ Some r
is_entry r None e = absurd (cc)
is_entry r (Some q) e = ap (λ i. Some i) (eqb-true q r e)

-- a test that tells the head from the tail nowhere
pub cut_tests : (p : Option ℕ → Bool) (r t k : ℕ) (cover : List (Option ℕ)) → p (Some t) ≡ p (Some r) → map p (cut_past r t k cover) ≡ map p cover
unfolding cut_past
cut_tests p r t k [] e = refl
cut_tests p r t k (x ∷ xs) e = grind (arith, nat_tests, is_entry r x, cut_tests p r t 0 xs e, cut_tests p r t (k - 1) xs e, cut_tests p r t k xs e)
