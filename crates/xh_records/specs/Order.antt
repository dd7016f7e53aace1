-- Numbers in the order in which they came, as contracts see them.
use Rattle.std.specs.Prelude.{ℕ, List}

-- the numbers, and how many there is room for
pub record OrderOf : Type 0 where
  pub items : List ℕ
  pub capacity : ℕ
