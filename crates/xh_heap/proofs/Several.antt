-- What a take at several ends answers: an index of one of them.
use Rattle.std.proofs.Common.{Err, IfOk, List, MatchOption, None, Ok, Option, Result, Some, arith, length, length-append, length-take, subst, sym, ℕ, ◌≡◌, ◌<◌, ◌≤◌}
use Rattle.std.proofs.lemmas.List.{length-map}
use Rattle.std.specs.Coded.{le_prop}
use Rattle.std.specs.Result.{result_map_both}
use mathlib.Core.Logic.{∥∥₁_elim}
use Rattle.xh_calls.specs.Leading.{Leading}
use Rattle.xh_calls.specs.Several.{TakesFirst, several_tests}
use Rattle.xh_calls.specs.declared.several.AnsweredAt.{AnsweredAt}
use Rattle.xh_core.specs.Refusing.{first_refusal}
use Rattle.xh_core.specs.declared.refused.Refused.{Refused}
use Rattle.xh_heap.specs.Values.{answered_of, ends_at}
use Rattle.xh_heap.specs.declared.values.Answered.{Answered}
use Rattle.xh_heap.specs.declared.values.End.{End}
use Rattle.xh_kernel.specs.Accounts.{AccountOf}
use Rattle.xh_kernel.specs.Did.{DidTakeAny}
use Rattle.xh_place.specs.Places.{PlaceSeen}
use Rattle.xh_place.specs.Seen.{Stays}

module _ (p : ℕ) (recs : List ℕ) (old new : PlaceSeen) (a : AnsweredAt) where
  at_taken : (o : Option Refused) → MatchOption o (TakesFirst p recs old new (Ok a)) (λ why. (Result.Ok a ≡ Err why) × Stays old new) → a.at < length recs
  at_taken None h = let is = h.ends_are in let index = h.index in grind (arith, length-append)
  at_taken (Some why) h = absurd (cc)

module _ (leads : Leading) (p : ℕ) {E : Type 0} (shows : E → End) (ends : List E) (recs : List ℕ) (are : recs ≡ ends_at shows ends p) (old new : AccountOf) where
  pub at_of : (result : Result Answered Refused) (told : Result AnsweredAt Refused) → result ≡ result_map_both (answered_of p) (λ why. why) told → DidTakeAny leads p recs told old new
      → IfOk result (λ a. a.at < length ends)
  at_of result (Err why) is h = subst (λ r. IfOk r (λ a. a.at < length ends)) (sym is) tt
  at_of result (Ok a) is h =
      let few : length recs ≤ length ends = rw (are, length-map, length-take) (omega arith) in
      let fits : a.at < length recs = ∥∥₁_elim h.3 le_prop (λ s. at_taken p recs s.2 s.3 a (first_refusal (several_tests p s.2 recs)) s.7) in
      subst (λ r. IfOk r (λ a. a.at < length ends)) (sym is) (omega (arith, few, fits))
