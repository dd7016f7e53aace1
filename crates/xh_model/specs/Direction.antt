-- A direction of a channel. Messages are numbered from 1 in the order put, and those after the last one taken wait, in that order.
use Rattle.std.specs.Prelude.{◌≡◌, ℕ, suc, List, [], ◌∷◌, ◌++◌}

module _ {Message : Type 0} (number : Message → ℕ) where
  -- the messages have the numbers after n, in order
  abbrev pub AreNumberedFrom : ℕ → List Message → Type 0
  AreNumberedFrom n [] = Unit {0}
  AreNumberedFrom n (m ∷ ms) = (number m ≡ suc n) × AreNumberedFrom (suc n) ms

  -- what was put is what was taken and then what waits, numbered from 1
  abbrev pub IsDirection : List Message → List Message → List Message → Type 0
  IsDirection put taken waiting = (put ≡ taken ++ waiting) × AreNumberedFrom 0 put
