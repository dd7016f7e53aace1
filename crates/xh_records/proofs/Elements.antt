-- Elements of lists.
use Rattle.xh_records.proofs.Common.{◌≡◌, ℕ, zero, suc, ◌<◌, List, [], ◌∷◌, ◌++◌, map, length, at_index, get_or, sym, refl, ap, ◌⊎◌, inl, inr, ⊎_elim, arith, Some, slice_get, some}
use Rattle.xh_records.proofs.Common.{some-injective, some-ne-none, get_elem?, Among}
use Rattle.std.proofs.lemmas.Option.{slice_get_within, get_or_from_slice_get}

-- the two ways to read a list
pub elem_slice : {A : Type 0} (l : List A) (k : ℕ) (x : A) → get_elem? l k ≡ some x → slice_get l k ≡ Some x
elem_slice [] k x e = absurd (some-ne-none x (sym e))
elem_slice (y ∷ ys) zero x e = ap (λ z. Some z) (some-injective y x e)
elem_slice (y ∷ ys) (suc k) x e = elem_slice ys k x e

pub slice_elem : {A : Type 0} (l : List A) (k : ℕ) (x : A) → slice_get l k ≡ Some x → get_elem? l k ≡ some x
slice_elem l k x e = at_index l k x (slice_get_within l k x e) (sym (get_or_from_slice_get l k x x e))

-- an element that is there is within the list
pub in_range : {A : Type 0} (l : List A) (i : ℕ) (a : A) → get_elem? l i ≡ some a → i < length l
in_range l i a e = slice_get_within l i a (elem_slice l i a e)

pub nth_is : {A : Type 0} (l : List A) (i : ℕ) (d a : A) → get_elem? l i ≡ some a → get_or l i d ≡ a
nth_is l i d a e = get_or_from_slice_get l i a d (elem_slice l i a e)

pub is_there : {A : Type 0} (l : List A) (i : ℕ) → i < length l → (a : A) × (get_elem? l i ≡ some a)
is_there [] i h = absurd (omega arith)
is_there (x ∷ xs) zero h = (x, refl)
is_there (x ∷ xs) (suc i) h = is_there xs i (omega arith)

pub snoc_at : {A : Type 0} (l : List A) (a b : A) (j : ℕ) → get_elem? (l ++ a ∷ []) j ≡ some b → (get_elem? l j ≡ some b) ⊎ ((a ≡ b) × (j ≡ length l))
snoc_at [] a b zero e = inr (some-injective a b e, refl)
snoc_at [] a b (suc j) e = absurd (some-ne-none b (sym e))
snoc_at (x ∷ xs) a b zero e = inl e
snoc_at (x ∷ xs) a b (suc j) e = ⊎_elim (λ (t : get_elem? xs j ≡ some b). inl t) (λ (t : (a ≡ b) × (j ≡ length xs)). inr (t.0, ap suc t.1)) (snoc_at xs a b j e)

pub among_map : (f : ℕ → ℕ) (xs : List ℕ) (x : ℕ) → Among xs x → Among (map f xs) (f x)
among_map f [] x h = absurd h
among_map f (y ∷ ys) x h = ⊎_elim (λ (e : x ≡ y). inl (ap f e)) (λ (t : Among ys x). inr (among_map f ys x t)) h

-- an element of a list of one
pub only_one : {A : Type 0} {x y : A} → Among (y ∷ []) x → x ≡ y
only_one h = ⊎_elim (λ e. e) (λ (z : ⊥). absurd z) h

-- what both ways lead to
pub either_way : {A B C : Type 0} → A ⊎ B → (A → C) → (B → C) → C
either_way s f g = ⊎_elim f g s
