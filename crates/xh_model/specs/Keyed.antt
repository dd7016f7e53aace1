-- Lists of values, each beside its key, as that of the blocks of a process by the numbers of their records.
use Rattle.std.specs.Prelude.{◌≡◌, ℕ, List, [], ◌∷◌, ◌==◌, cond, Option, Some, None, ◌⊎◌}

-- x stands in the list
abbrev pub Among : {A : Type 0} → List A → A → Type 0
Among [] x = ⊥
Among (y ∷ ys) x = (x ≡ y) ⊎ Among ys x

-- no number stands in it twice
abbrev pub Distinct : List ℕ → Type 0
Distinct [] = Unit {0}
Distinct (x ∷ xs) = (Among xs x → ⊥) × Distinct xs

abbrev pub keys : {X : Type 0} → List (ℕ × X) → List ℕ
keys [] = []
keys (x ∷ xs) = x.0 ∷ keys xs

-- the first value beside the key r
abbrev pub value_at : {X : Type 0} → ℕ → List (ℕ × X) → Option X
value_at r [] = None
value_at r (x ∷ xs) = cond (x.0 == r) (Some x.1) (value_at r xs)

-- the list where that value is y
abbrev pub put : {X : Type 0} → ℕ → X → List (ℕ × X) → List (ℕ × X)
put r y [] = []
put r y (x ∷ xs) = cond (x.0 == r) ((r, y) ∷ xs) (x ∷ put r y xs)

-- the list without the values beside the key r
abbrev pub without : {X : Type 0} → ℕ → List (ℕ × X) → List (ℕ × X)
without r [] = []
without r (x ∷ xs) = cond (x.0 == r) (without r xs) (x ∷ without r xs)
