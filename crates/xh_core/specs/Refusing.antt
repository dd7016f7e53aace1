-- How a command is refused: the refusals in the order of their tests.
use Rattle.std.specs.Prelude.{◌≡◌, Bool, cond, List, [], ◌∷◌, Option, Some, None, Result, MatchResult}
use Rattle.xh_core.specs.declared.refused.Refused.{Refused}

-- the refusals of a command in their order, each with its test
abbrev pub Tests : Type 0
Tests = List (Bool × Refused)

-- the first refusal whose test is true
abbrev pub first_refusal : Tests → Option Refused
first_refusal [] = None
first_refusal (test ∷ tests) = cond test.0 (Some test.1) (first_refusal tests)

-- a check passes and tells something, or gives the first refusal
abbrev pub Tested : Tests → {A : Type 0} → Result A Refused → (A → Type 0) → Type 0
Tested tests result P = MatchResult result (λ a. (first_refusal tests ≡ None) × P a) (λ refused. first_refusal tests ≡ Some refused)
