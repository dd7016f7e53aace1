-- A carving is refused for one reason at most, and for none where there is a place and the wear is within the limit.
use Rattle.xh_arena.proofs.Common.{nat_tests, ◌≡◌, ℕ, ◌+◌, ◌≤◌, sym, ap, ◌∙◌, arith, Some, None, is_some, false≢true, ArenaState}
use Rattle.xh_model.specs.Cover.{first_fit}
use Rattle.xh_arena.specs.declared.refused.Refused.{Refused}
use Rattle.xh_arena.specs.declared.refused.Refused.TheVariants.{NoSpace, Worn}
use Rattle.xh_arena.specs.Refusals.{RefusesCarve}

no_none : (n at : ℕ) (arena : ArenaState) → first_fit n arena.cover ≡ Some at → first_fit n arena.cover ≡ None → ⊥
no_none n at arena some none = false≢true (ap is_some (sym none ∙ some))

-- there is a place, and the wear stays within the limit
pub not_refused : (n at : ℕ) (arena : ArenaState) → first_fit n arena.cover ≡ Some at → arena.wear + n ≤ arena.limit → (e : Refused) → RefusesCarve n arena e → ⊥
not_refused n at arena some within refusal why = grind (arith, nat_tests, no_none)

-- there is no place
pub only_no_space : (n : ℕ) (arena : ArenaState) → first_fit n arena.cover ≡ None → (e : Refused) → RefusesCarve n arena e → NoSpace ≡ e
only_no_space n arena e refusal why = grind (arith, nat_tests)

-- there is a place
pub only_worn : (n at : ℕ) (arena : ArenaState) → first_fit n arena.cover ≡ Some at → (e : Refused) → RefusesCarve n arena e → Worn ≡ e
only_worn n at arena some refusal why = grind (arith, nat_tests, no_none)
