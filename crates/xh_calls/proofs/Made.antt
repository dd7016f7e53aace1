-- Vaults with their lots and names, one after the other.
use Rattle.xh_calls.proofs.Common.{All-push, AreLots, AreMakings, Body, IsNew, IsUnused, List, LotOf, Some, TableId, VaultOf, [], ap, arith, fits_in, length, length-append, map_push, slice_get, subst, suc}
use Rattle.xh_calls.proofs.Common.{suc-mul, sym, true, ℕ, ⊎_elim, ◌%◌, ◌*◌, ◌++◌, ◌+◌, ◌/◌, ◌<◌, ◌∙◌, ◌∷◌, ◌≡◌}
use Rattle.std.proofs.lemmas.Nat.{div-mul-add, mod-mul-add}
use Rattle.xh_calls.proofs.Lists.{front_at, below_get, last_at, split_at}

pub makings_more : (new : Body → Type 0) (w n size wear : ℕ) (vs : List VaultOf) (ls more : List (LotOf Body)) (names : List TableId) (v : VaultOf)
    → ((b : Body) → new b → fits_in b 0 ≡ true) → AreMakings w n size wear vs ls names → IsNew w n size wear v → IsUnused v → AreLots new v.id n more
    → AreMakings w n size wear (vs ++ v ∷ []) (ls ++ more) (names ++ v.id ∷ [])
makings_more new w n size wear vs ls more names v blank made is unused lots = (
  map_push (λ (z : VaultOf). z.id) vs v ∙ ap (λ z. z ++ v.id ∷ []) made.0,
  All-push (IsNew w n size wear) vs v made.1 is,
  All-push IsUnused vs v made.2 unused,
  (
    (let a = length-append ls more in let b = length-append names (v.id ∷ []) in let c : length ls ≡ length names * n = made.3.0 in let d : length more ≡ n = lots.0 in
        let e : length (names ++ v.id ∷ []) ≡ suc (length names) = omega arith in
        let f : length (names ++ v.id ∷ []) * n ≡ length names * n + n = ap (λ z. z * n) e ∙ suc-mul (length names) n in omega arith),
    λ k l at. ⊎_elim
        (λ (a : slice_get ls k ≡ Some l). let t = made.3.1 k l a in (t.0, front_at names (v.id ∷ []) (k / n) l.id t.1, t.2))
        (λ (b : (i : ℕ) × (k ≡ length ls + i) × (slice_get more i ≡ Some l)).
        let i : ℕ = b.0 in
        let t = lots.1 i l b.2 in
        let inside : i < n = subst (λ z. i < z) lots.0 (below_get more i l b.2) in
        let is_at : k ≡ length names * n + i = b.1 ∙ ap (λ z. z + i) made.3.0 in
        let m : k % n ≡ i = ap (λ z. z % n) is_at ∙ mod-mul-add (length names) n i inside in
        let q : k / n ≡ length names = ap (λ z. z / n) is_at ∙ div-mul-add (length names) n i inside in
        (t.1 ∙ sym m, ap (slice_get (names ++ v.id ∷ [])) q ∙ last_at names v.id ∙ ap Some (sym t.0), (t.2, blank l.body t.3)))
        (split_at ls more k l at),
  ),
)
