-- What the list shows of the lots, as a sweep's clauses have it: at each change of both.
use Rattle.xh_place.proofs.Words.{◌≡◌, ◌≢◌, ℕ, suc, length, List, [], ◌∷◌, ◌++◌, refl, sym, ap, ◌∙◌, subst, arith, nat_tests, inl, inr, ⊎_elim, dite, ℕ_discrete, Some, None, LotOf, Body, Item}
use Rattle.xh_place.proofs.Words.{Among, Distinct, keys}
use Rattle.xh_place.proofs.Words.{value_at, put, without, last_at, last_other, put_at, put_other, without_other, here_first, not_here, item_in, item_of, less, shown}
use Rattle.xh_place.proofs.Listing.{less_absent, less_was}

pub shown_append : (lots : List (ℕ × LotOf Body)) (rs qs : List ℕ) → shown lots (rs ++ qs) ≡ shown lots rs ++ shown lots qs
shown_append lots [] qs = refl
shown_append lots (r ∷ rs) qs = ap (λ (l : List (ℕ × Item)). (r, item_in (value_at r lots)) ∷ l) (shown_append lots rs qs)

pub shown_long : (lots : List (ℕ × LotOf Body)) (rs : List ℕ) → length (shown lots rs) ≡ length rs
shown_long lots [] = refl
shown_long lots (r ∷ rs) = ap suc (shown_long lots rs)

-- only what stands at these numbers counts
pub shown_same : (rs : List ℕ) (xs ys : List (ℕ × LotOf Body)) → ((r : ℕ) → Among rs r → value_at r xs ≡ value_at r ys) → shown xs rs ≡ shown ys rs
shown_same [] xs ys same = refl
shown_same (r ∷ rs) xs ys same = λ i. (r, item_in (same r (inl refl) i)) ∷ shown_same rs xs ys (λ q a. same q (inr a)) i

pub shown_gain : (r : ℕ) (l : LotOf Body) (lots : List (ℕ × LotOf Body)) (rs : List ℕ) → (Among (keys lots) r → ⊥) → (Among rs r → ⊥)
    → shown (lots ++ (r, l) ∷ []) (rs ++ r ∷ []) ≡ shown lots rs ++ (r, item_of l) ∷ []
shown_gain r l lots rs fresh none =
    shown_append (lots ++ (r, l) ∷ []) rs (r ∷ [])
    ∙ (λ i. shown_same rs (lots ++ (r, l) ∷ []) lots (λ q a. last_other q r l lots (λ e. none (subst (λ (z : ℕ). Among rs z) (sym e) a))) i ++ (r, item_in (last_at r l lots fresh i)) ∷ [])

pub less_shown : (r : ℕ) (lots : List (ℕ × LotOf Body)) (rs : List ℕ) → shown lots (less r rs) ≡ without r (shown lots rs)
less_shown r lots [] = refl
less_shown r lots (x ∷ xs) = grind (arith, nat_tests, less_shown r lots xs)
