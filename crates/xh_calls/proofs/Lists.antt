-- A fact of each entry of a list, by its place.
use Rattle.xh_calls.proofs.Common.{List, Some, [], arith, get_or, inl, inr, length, refl, slice_get, subst, suc, zero, ℕ, ⊎_elim, ◌++◌, ◌+◌, ◌<◌, ◌∷◌, ◌≡◌, ◌⊎◌}
pub use Rattle.std.proofs.lemmas.Option.{slice_get-get_or as there, slice_get_within as below_get}

pub each_push : {A : Type 0} (P : ℕ → A → Type 0) (xs : List A) (x : A) → ((k : ℕ) (d : A) → k < length xs → P k (get_or xs k d)) → P (length xs) x
    → (k : ℕ) (d : A) → k < length (xs ++ x ∷ []) → P k (get_or (xs ++ x ∷ []) k d)
each_push P [] x each last zero d h = last
each_push P [] x each last (suc k) d h = absurd (omega arith)
each_push P (y ∷ ys) x each last zero d h = each zero d (omega arith)
each_push P (y ∷ ys) x each last (suc k) d h = each_push (λ j z. P (suc j) z) ys x (λ j e l. each (suc j) e (omega arith)) last k d (omega arith)

pub front_at : {A : Type 0} (xs ys : List A) (k : ℕ) (x : A) → slice_get xs k ≡ Some x → slice_get (xs ++ ys) k ≡ Some x
front_at [] ys k x e = absurd (cc)
front_at (y ∷ xs) ys zero x e = e
front_at (y ∷ xs) ys (suc k) x e = front_at xs ys k x e

pub last_at : {A : Type 0} (xs : List A) (x : A) → slice_get (xs ++ x ∷ []) (length xs) ≡ Some x
last_at [] x = refl
last_at (y ∷ xs) x = last_at xs x

pub split_at : {A : Type 0} (xs ys : List A) (k : ℕ) (x : A) → slice_get (xs ++ ys) k ≡ Some x → (slice_get xs k ≡ Some x) ⊎ ((i : ℕ) × (k ≡ length xs + i) × (slice_get ys i ≡ Some x))
split_at [] ys k x e = inr (k, (let z : k ≡ 0 + k = omega arith in z), e)
split_at (y ∷ xs) ys zero x e = inl e
split_at {A} (y ∷ xs) ys (suc k) x e = ⊎_elim
    (λ (a : slice_get xs k ≡ Some x). inl a)
    (λ (b : (i : ℕ) × (k ≡ length xs + i) × (slice_get ys i ≡ Some x)). inr (b.0, (let z : k ≡ length xs + b.0 = b.1 in let w : suc k ≡ suc (length xs) + b.0 = omega arith in w), b.2))
    (split_at xs ys k x e)

-- what is so of each entry of a list, by its place, is so of the first, and of each of the rest
module _ {A : Type 0} (P : ℕ → A → Type 0) (n : ℕ) (xs ys : List A) (x : A) (is : xs ≡ x ∷ ys) (count : ℕ) (each : (k : ℕ) (d : A) → k < count → P (n + k) (get_or xs k d)) where
  pub first_of : 0 < count → P n x
  first_of some = subst (λ m. P m x) (let e : n + 0 ≡ n = omega arith in e) (subst (λ (l : List A). P (n + 0) (get_or l 0 x)) is (each 0 x some))

  pub rest_of : (left m : ℕ) → left + 1 ≡ count → m ≡ n + 1 → (k : ℕ) (d : A) → k < left → P (m + k) (get_or ys k d)
  rest_of left m fewer more k d below = subst (λ j. P j (get_or ys k d)) (let e : n + suc k ≡ m + k = omega arith in e)
      (subst (λ (l : List A). P (n + suc k) (get_or l (suc k) d)) is (each (suc k) d (omega arith)))
