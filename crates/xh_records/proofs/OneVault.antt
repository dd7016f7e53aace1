-- A table over the lots of one vault, with two places.
use Rattle.xh_records.proofs.Common.{◌≡◌, ℕ, ◌%◌, ◌/◌, ◌<◌, ◌∙◌, Bool, true, List, [], ◌∷◌, sym, ap, subst, Some, slice_get, TableId, LotOf, AreLots, IsEmpty}
use Rattle.std.proofs.Math.Nat.{mod-eq_of_lt, div-eq_of_lt}
use Rattle.std.proofs.lemmas.Option.{slice_get_within}

-- its lots are those of a table with one arena
pub of_one_vault : {B : Type 0} (new : B → Type 0) (fits : B → ℕ → Bool) (id : TableId) (n : ℕ) (names : List TableId) (ls : List (LotOf B)) → ((b : B) → new b → fits b 0 ≡ true) → names ≡ id ∷ []
    → AreLots new id n ls
    → (k : ℕ) (l : LotOf B) → slice_get ls k ≡ Some l → (l.index ≡ k % n) × (slice_get names (k / n) ≡ Some l.id) × IsEmpty fits l
of_one_vault new fits id n names ls blank named lots k l at =
    let below : k < n = subst (λ (m : ℕ). k < m) lots.0 (slice_get_within ls k l at) in
    let lot = lots.1 k l at in (
      lot.1 ∙ sym (mod-eq_of_lt below),
      (λ i. slice_get (named i) (div-eq_of_lt below i)) ∙ ap Some (sym lot.0),
      (lot.2, blank l.body lot.3),
    )
