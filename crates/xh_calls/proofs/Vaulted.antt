-- The vault of an arena's lock stays one of that arena under each call, and its history ends in it.
use Rattle.xh_calls.proofs.Common.{All-push, AreTheirs, EndsIn, Enters, Err, FrontOf, HasSeen, History, IfErr, IfOk, IsKeptVault, IsVaultOf, Leaves, LotOf, Ok, PartsOf, PenOf, Result}
use Rattle.xh_calls.proofs.Common.{TallyOf, VaultOf, [], ap, at, length, refl, slice_set, subst, sym, ℕ, ◌++◌, ◌<◌, ◌∙◌, ◌∷◌, ◌≡◌}
use Rattle.xh_arena.specs.declared.refused.Refused.{Refused as ArenaRefused}
use Rattle.xh_arena.specs.Refusals.{RefusesCarve}
use Rattle.xh_arena.specs.Sharing.{IsVaultCarved, IsVaultCut, IsVaultGivenBack}
use Rattle.xh_model.specs.Arena.{ArenaState}
use Rattle.xh_model.proofs.Calls.{back_records, back_size, carved_records, carved_size, cut_records, cut_size}

ends_push : (v : VaultOf) (h : History VaultOf) (k : ℕ) → EndsIn v (h ++ (k, v) ∷ [])
ends_push v [] k = refl
ends_push v (c ∷ []) k = refl
ends_push v (c ∷ d ∷ h) k = ends_push v (d ∷ h) k

-- the pen writes what the vault is now behind what the worker has seen
pub entry : (v w : VaultOf) (pen pen' : PenOf VaultOf) (front front' : FrontOf VaultOf) → pen' ≡ record pen { history = pen.history ++ (front.number, w) ∷ [] }
    → front' ≡ record front { fronts = slice_set front.fronts pen.number pen'.history } → HasSeen front.number (at front.fronts pen.number) pen.history → EndsIn v pen.history
    → EndsIn w pen'.history × Enters pen.number v w front front'
entry v w pen pen' front front' pen_is front_is seen was = (
  subst (λ (z : PenOf VaultOf). EndsIn w z.history) (sym pen_is) (ends_push w pen.history front.number),
  record { others = seen.0; not_its_own = seen.2; found = subst (EndsIn v) seen.1 was; seen = (let history = seen.1 in cc) },
)

-- and this is of a worker too
pub theirs : (p : PartsOf) (w : VaultOf) (n : ℕ) (pen pen' : PenOf VaultOf) → pen' ≡ record pen { history = pen.history ++ (n, w) ∷ [] } → n < p.workers → AreTheirs p pen.history
    → AreTheirs p pen'.history
theirs p w n pen pen' is own all = subst (λ (z : PenOf VaultOf). AreTheirs p z.history) (sym is) (All-push (λ (c : ℕ × VaultOf). c.0 < p.workers) pen.history (n, w) all own)

-- once the worker entered what the vault is now
module _ (p : PartsOf) (v : VaultOf) {w : VaultOf} (pen pen' : PenOf VaultOf) {front front' : FrontOf VaultOf} {X : Type 0} (was : IsKeptVault p v pen)
    (same : (pen'.table ≡ pen.table) × (pen'.number ≡ pen.number) × X) (entered : (z : VaultOf) → EndsIn z pen.history → EndsIn w pen'.history × Enters pen.number z w front front') where
  pub keeps : (AreTheirs p pen.history → AreTheirs p pen'.history) → IsVaultOf p pen.number w → IsKeptVault p w pen'
  keeps theirs is = (same.0 ∙ was.0, subst (λ (a : ℕ). IsVaultOf p a w) (sym same.1) is, (entered v was.2).0, theirs was.3)

  pub leaves : {a : ℕ} → pen.number ≡ a → Leaves p front front' a v w
  leaves number = subst (λ (a : ℕ). Leaves p front front' a v w) number (was.1, (entered v was.2).1)

module _ (p : PartsOf) (a : ℕ) where
  stays : (v w : VaultOf) (back : ℕ) → IsVaultOf p a v → w ≡ record v { arena = w.arena; back = back } → w.arena.records ≡ v.arena.records
      → length w.arena.cover ≡ length v.arena.cover → w.arena.limit ≡ v.arena.limit → IsVaultOf p a w
  stays v w back is books records size limit = (let e = is.0 in cc, ((let e = is.1.0 in cc), (let e = is.1.1 in cc), is.1.2, records ∙ is.1.3, size ∙ is.1.4, limit ∙ is.1.5))

  module _ {B : Type 0} where
    pub carve_stays : (n : ℕ) (v w : VaultOf) (lot lot' : LotOf B) (tally tally' : TallyOf) (result : Result ℕ ArenaRefused) → IsVaultOf p a v
        → IfOk result (λ at. IsVaultCarved n at v w lot lot' tally tally')
        → IfErr result (λ e. RefusesCarve n v.arena e × (w ≡ v) × (lot' ≡ lot) × (tally' ≡ tally)) → IsVaultOf p a w
    carve_stays n v w lot lot' tally tally' (Ok at) is done refused =
        stays v w _ is done.books
        (carved_records lot.index n at v.arena w.arena done.arena) (carved_size lot.index n at v.arena w.arena done.arena) (ap (λ (z : ArenaState). z.limit) done.arena.change)
    carve_stays n v w lot lot' tally tally' (Err e) is done refused = subst (IsVaultOf p a) (sym refused.1) is

    pub cut_stays : (k : ℕ) (v w : VaultOf) (head head' tail tail' : LotOf B) → IsVaultOf p a v → IsVaultCut k v w head head' tail tail' → IsVaultOf p a w
    cut_stays k v w head head' tail tail' is done =
        stays v w _ is done.books
        (cut_records head.index tail.index k v.arena w.arena done.arena) (cut_size head.index tail.index k v.arena w.arena done.arena) (ap (λ (z : ArenaState). z.limit) done.arena.change)

    pub back_stays : (v w : VaultOf) (lot lot' : LotOf B) (tally tally' : TallyOf) → IsVaultOf p a v → IsVaultGivenBack v w lot lot' tally tally' → IsVaultOf p a w
    back_stays v w lot lot' tally tally' is done =
        stays v w _ is done.books
        (back_records lot.index v.arena w.arena done.arena) (back_size lot.index v.arena w.arena done.arena) (ap (λ (z : ArenaState). z.limit) done.arena.change)
