-- Numbered messages, joined and cut in two.
use Rattle.std.proofs.Common.{◌≡◌, ℕ, suc, ◌+◌, List, [], ◌∷◌, ◌++◌, length, ap, ◌∙◌, arith}
use Rattle.xh_model.specs.Direction.{AreNumberedFrom}

module _ {Message : Type 0} (number : Message → ℕ) where
  pub numbers_join : (n : ℕ) (xs : List Message) (m : Message) → AreNumberedFrom number n xs → number m ≡ suc (n + length xs) → AreNumberedFrom number n (xs ++ m ∷ [])
  numbers_join n [] m h e = (e ∙ ap suc (omega arith), tt)
  numbers_join n (x ∷ xs) m h e = (h.0, numbers_join (suc n) xs m h.1 (e ∙ ap suc (omega arith)))

  pub number_at : (n : ℕ) (xs : List Message) (m : Message) (ys : List Message) → AreNumberedFrom number n (xs ++ m ∷ ys) → number m ≡ suc (n + length xs)
  number_at n [] m ys h = h.0 ∙ ap suc (omega arith)
  number_at n (x ∷ xs) m ys h = number_at (suc n) xs m ys h.1 ∙ ap suc (omega arith)

  pub numbers_before : (n : ℕ) (xs ys : List Message) → AreNumberedFrom number n (xs ++ ys) → AreNumberedFrom number n xs
  numbers_before n [] ys h = tt
  numbers_before n (x ∷ xs) ys h = (h.0, numbers_before (suc n) xs ys h.1)
