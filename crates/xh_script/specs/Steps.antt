-- Readings that may end in a fault.
use Rattle.std.specs.Prelude.{Result, Ok, Err}

-- the first fault decides
infixl 10 ◌>>=◌
abbrev pub ◌>>=◌ : {A B E : Type 0} → Result A E → (A → Result B E) → Result B E
(Ok x) >>= f = f x
(Err e) >>= f = Err e
