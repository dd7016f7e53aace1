-- New accounts.
use Rattle.xh_calls.proofs.Common.{AreFreshTallies, List, TableId, TallyOf, [], ap, fresh_tally, ids_of, map, map_push, refl, sym, ℕ, ◌++◌, ◌∙◌, ◌∷◌, ◌≡◌}

ids_fresh : (k : ℕ) (zs : List TableId) → ids_of (map (fresh_tally k) zs) ≡ zs
ids_fresh k [] = refl
ids_fresh k (z ∷ zs) = ap (λ ys. z ∷ ys) (ids_fresh k zs)

pub fresh_named : (zs : List TableId) (k : ℕ) (ts : List TallyOf) → AreFreshTallies zs k ts → ids_of ts ≡ zs
fresh_named zs k ts e = ap ids_of e ∙ ids_fresh k zs

-- one tally more
pub fresh_more : (zs : List TableId) (z : TableId) (k : ℕ) (ts : List TallyOf) (t : TallyOf) → AreFreshTallies zs k ts → t ≡ fresh_tally k z → AreFreshTallies (zs ++ z ∷ []) k (ts ++ t ∷ [])
fresh_more zs z k ts t e f = ap (λ us. us ++ t ∷ []) e ∙ ap (λ u. map (fresh_tally k) zs ++ u ∷ []) f ∙ sym (map_push (fresh_tally k) zs z)
