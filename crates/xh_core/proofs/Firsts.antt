-- The first refusal of a table made of tables.
use Rattle.xh_core.proofs.Common.{Bool, List, None, Refused, Some, [], ap, arith, false≢true, first_refusal, is_some, nat_tests, refl, ◌++◌, ◌∷◌, ◌≡◌}

-- what one table refuses first, it refuses with more behind
pub first_append : (a b : List (Bool × Refused)) (e : Refused) → first_refusal a ≡ Some e → first_refusal (a ++ b) ≡ Some e
first_append [] b e h = absurd (false≢true (ap is_some h))
first_append (test ∷ tests) b e h = let more = first_append tests b e in grind (arith, nat_tests, more, h)

-- what refuses nothing is passed over
pub first_later : (a b : List (Bool × Refused)) → first_refusal a ≡ None → first_refusal (a ++ b) ≡ first_refusal b
first_later [] b h = refl
first_later (test ∷ tests) b h = let more = first_later tests b in grind (arith, nat_tests, more, h)
