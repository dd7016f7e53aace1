-- Weights added up over lists.
use Rattle.xh_arena.proofs.Common.{◌≡◌, ℕ, zero, suc, ◌+◌, ◌≤◌, List, [], ◌∷◌, ◌++◌, set, Some, refl, sym, ap, ◌∙◌, arith, replicate, sum-map, slice_get, map, sum, some, some-ne-none, get_elem?}
use Rattle.xh_arena.proofs.Common.{weigh}
use Rattle.std.proofs.lemmas.List.Recursion.{is_sum_by}

module _ {X : Type 0} where
  pub weigh-append : (f : X → ℕ) (xs ys : List X) → weigh f (xs ++ ys) ≡ weigh f xs + weigh f ys
  weigh-append f [] ys = omega arith
  weigh-append f (x ∷ xs) ys = omega (arith, weigh-append f xs ys)

  pub weigh-set : (f : X → ℕ) (xs : List X) (i : ℕ) (x y : X) → slice_get xs i ≡ Some x → weigh f (set xs i y) + f x ≡ weigh f xs + f y
  weigh-set f [] i x y e = absurd (cc)
  weigh-set f (a ∷ more) zero x y e = let same : a ≡ x = cc in rw same (omega arith)
  weigh-set f (a ∷ more) (suc i) x y e = omega (arith, weigh-set f more i x y e)

  pub weigh-at : (f : X → ℕ) (xs : List X) (i : ℕ) (x : X) → slice_get xs i ≡ Some x → f x ≤ weigh f xs
  weigh-at f [] i x e = absurd (cc)
  weigh-at f (a ∷ more) zero x e = let same : a ≡ x = cc in rw same (omega arith)
  weigh-at f (a ∷ more) (suc i) x e = omega (arith, weigh-at f more i x e)

  -- where each weighs nothing by f, all weigh nothing
  pub weigh-none : (f g : X → ℕ) → ((x : X) → f x ≡ 0 → g x ≡ 0) → (xs : List X) → weigh f xs ≡ 0 → weigh g xs ≡ 0
  weigh-none f g h [] e = refl
  weigh-none f g h (x ∷ xs) e = let a = h x (omega arith) in let b = weigh-none f g h xs (omega arith) in omega arith

  -- what the other lists have, taken together
  pub others_of : (xs : List (List X)) (i : ℕ) (v : List X) → get_elem? xs i ≡ some v → (os : List X) × ((w : List X) (h : X → ℕ) → weigh (weigh h) (set xs i w) ≡ weigh h w + weigh h os)
  others_of [] i v e = absurd (some-ne-none v (sym e))
  others_of (a ∷ more) zero v e = (joined more, λ w h. omega (arith, weigh-joined h more))
    where
      joined : List (List X) → List X
      joined [] = []
      joined (y ∷ ys) = y ++ joined ys

      weigh-joined : (h : X → ℕ) (ys : List (List X)) → weigh h (joined ys) ≡ weigh (weigh h) ys
      weigh-joined h [] = refl
      weigh-joined h (y ∷ ys) = omega (arith, weigh-append h y (joined ys), weigh-joined h ys)
  others_of (a ∷ more) (suc i) v e = let r = others_of more i v e in (a ++ r.0, λ w h. omega (arith, weigh-append h a r.0, r.1 w h))

pub weigh_none : {X : Type 0} (f : X → ℕ) (x : X) → f x ≡ 0 → (n : ℕ) → weigh f (replicate n x) ≡ 0
weigh_none f x e zero = refl
weigh_none f x e (suc n) = omega (arith, e, weigh_none f x e n)

pub weigh_sum : {X : Type 0} (f : X → ℕ) (xs : List X) → weigh f xs ≡ sum (map f xs)
weigh_sum f xs = is_sum_by (weigh f) f refl (λ _ _. refl) xs ∙ sym (sum-map f xs)

pub weigh_all : (xs : List ℕ) → weigh (λ (k : ℕ). k) xs ≡ sum xs
weigh_all xs = is_sum_by (weigh (λ (k : ℕ). k)) (λ (k : ℕ). k) refl (λ _ _. refl) xs ∙ (sym (sum-map (λ (k : ℕ). k) xs) ∙ ap sum (map_same xs))
  where
    map_same : (xs : List ℕ) → map (λ (k : ℕ). k) xs ≡ xs
    map_same [] = refl
    map_same (x ∷ xs) = ap (λ ys. x ∷ ys) (map_same xs)
