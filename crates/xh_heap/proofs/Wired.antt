-- One process of a team was wired to another, or to itself.
use Rattle.std.proofs.Common.{ap, subst, sym, ◌≡◌, ◌≢◌, ◌∙◌, ◌<◌, ℕ, List, Option, Result, length, get_or, get_or-set_same}
use Rattle.std.proofs.lemmas.List.{get_or_default}
use Rattle.std.specs.Prelude.{slice_set}
use Rattle.xh_calls.specs.Leading.{Leading}
use Rattle.xh_calls.specs.Parts.{PartsOf}
use Rattle.xh_core.specs.declared.refused.Refused.{Refused}
use Rattle.xh_heap.specs.Handles.{HandleOf}
use Rattle.xh_heap.specs.Teams.{OpensOwn, WiresTo, WiresTwo}
use Rattle.xh_heap.specs.declared.values.End.{End}
use Rattle.xh_model.specs.declared.row.Row.{Row}

module _ (parts : PartsOf) (leads : Leading) (c : Option (List Row)) {P : Type 0} (handle : P → HandleOf) (one other : ℕ) (old new : List P) (result : Result (End × End) Refused) where
  pub wired : (a b d e p : P) → a ≡ get_or old one d → b ≡ get_or old other e → new ≡ slice_set old one p → one < length old → other < length old → one ≢ other
      → WiresTo parts leads c (handle b) (handle a) (handle p) result → WiresTwo parts leads c handle one other old new result
  wired a b d e p is_a is_b is i j ne h = record {
    none = λ n. absurd (n i j);
    both = λ x l same. absurd (ne same);
    wire = λ x l m n. let same = ap (λ xs. get_or xs one x) is ∙ get_or-set_same old one p x i in (
      is ∙ ap (slice_set old one) (sym same),
      subst (λ z. WiresTo parts leads c (handle (get_or old other x)) (handle (get_or old one x)) (handle z) result) (sym same)
          (subst (λ z. WiresTo parts leads c (handle (get_or old other x)) (handle z) (handle p) result) (is_a ∙ get_or_default old one d x i)
          (subst (λ z. WiresTo parts leads c (handle z) (handle a) (handle p) result) (is_b ∙ get_or_default old other e x j) h)),
    );
  }

  pub opened : (a d p : P) → a ≡ get_or old one d → new ≡ slice_set old one p → one < length old → one ≡ other → OpensOwn parts leads c (handle a) (handle p) result
      → WiresTwo parts leads c handle one other old new result
  opened a d p is_a is i one_is h = record {
    none = λ n. absurd (n i (subst (λ k. k < length old) one_is i));
    both = λ x l m. let same = ap (λ xs. get_or xs one x) is ∙ get_or-set_same old one p x i in (
      is ∙ ap (slice_set old one) (sym same),
      subst (λ z. OpensOwn parts leads c (handle (get_or old one x)) (handle z) result) (sym same)
          (subst (λ z. OpensOwn parts leads c (handle z) (handle p) result) (is_a ∙ get_or_default old one d x i) h),
    );
    wire = λ x l m ne. absurd (ne one_is);
  }
