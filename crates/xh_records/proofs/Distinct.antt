-- Lists in which no number stands twice.
use Rattle.xh_records.proofs.Common.{nat_tests, ◌≡◌, ℕ, zero, suc, ◌+◌, ◌<◌, ◌≤◌, List, [], ◌∷◌, ◌++◌, map, length, sym, refl, subst, inl, inr, arith, dite, place_of, Among, Distinct, among_back}
use Rattle.xh_records.proofs.Common.{among_either, among_front, dec_among, places_from, AllBelow}
use Rattle.xh_records.proofs.Elements.{either_way, among_map}
use Rattle.xh_records.proofs.Lists.{few}

-- the processes at places
pub process_in : (ps : List ℕ) (q : ℕ) → Among (map place_of ps) q → (p : ℕ) × Among ps p × (place_of p ≡ q)
process_in [] q h = absurd h
process_in (x ∷ xs) q h = grind (arith, nat_tests, process_in xs q)

pub distinct_places : (xs ys : List ℕ) → Distinct (map place_of xs) → Distinct (map place_of ys) → ((p q : ℕ) → Among xs p → Among ys q → place_of p ≡ place_of q → ⊥)
    → Distinct (map place_of (xs ++ ys))
distinct_places [] ys a b none = b
distinct_places (x ∷ xs) ys a b none = (
  λ h. let r = process_in (xs ++ ys) (place_of x) h in either_way (among_either xs ys r.0 r.1) (λ t. a.0 (subst (Among (map place_of xs)) r.2 (among_map place_of xs r.0 t)))
      (λ t. none x r.0 (inl refl) t (sym r.2)),
  distinct_places xs ys a.1 b (λ p q t u e. none p q (inr t) u e),
)

pub not_twice : (xs : List ℕ) (y p : ℕ) → Distinct (map place_of (xs ++ y ∷ [])) → Among xs p → place_of p ≡ place_of y → ⊥
not_twice [] y p d h e = h
not_twice (x ∷ xs) y p d h e = let last = among_map place_of (xs ++ y ∷ []) y (among_back xs (y ∷ []) y (inl refl)) in grind (arith, nat_tests, not_twice xs y p d.1)

pub distinct_front : (xs : List ℕ) (y : ℕ) → Distinct (map place_of (xs ++ y ∷ [])) → Distinct (map place_of xs)
distinct_front [] y d = tt
distinct_front (x ∷ xs) y d = (
  λ h. let r = process_in xs (place_of x) h in d.0 (subst (Among (map place_of (xs ++ y ∷ []))) r.2 (among_map place_of (xs ++ y ∷ []) r.0 (among_front xs (y ∷ []) r.0 r.1))),
  distinct_front xs y d.1,
)

pub least : (a k p : ℕ) → Among (places_from a k) p → (a ≤ p) × (p < a + k)
least a zero p h = absurd h
least a (suc k) p h = grind (arith, nat_tests, least (suc a) k p)

pub few_places : (a k : ℕ) → a + k ≤ 32 → Distinct (map place_of (places_from a k))
few_places a zero few = tt
few_places a (suc k) few = grind (arith, nat_tests, process_in, least, few_places (suc a) k (omega arith))

all_below : (n : ℕ) (xs : List ℕ) → ((x : ℕ) → Among xs x → x < n) → AllBelow n xs
all_below n [] below = tt
all_below n (x ∷ xs) below = (below x (inl refl), all_below n xs (λ y h. below y (inr h)))

-- n different numbers below n are all of them
pub covers : (n : ℕ) (xs : List ℕ) → Distinct xs → ((x : ℕ) → Among xs x → x < n) → length xs ≡ n → (q : ℕ) → q < n → Among xs q
covers n xs d below long q inside = dite (dec_among xs q) (λ h. h)
    (λ none. let most = few n (q ∷ xs) (inside, all_below n xs below) (none, d) in absurd (omega arith))
