-- The two ends of a channel under a valid contract stay in step.
use Rattle.std.proofs.Common.{◌≡◌, ℕ, suc, ◌<◌, ◌-◌, true, List, [], ◌∷◌, ◌++◌, ◌⊎◌, inl, inr, sym, refl, rules, arith, length}
use Rattle.std.specs.Prelude.{Option, Some, None}
use Rattle.std.proofs.lemmas.Bool.{cases_Bool}
use Rattle.std.proofs.lemmas.Option.{none-some, same_Some}
use Rattle.xh_model.specs.declared.row.Row.{Row}
use Rattle.xh_model.specs.Rows.{row_at, IsValid, fits, allowed, walk, InStep, IsFrontAllowed}

fits_parts : (state tag side : ℕ) (row : Row) → fits state tag side row ≡ true → (row.state ≡ state) × (row.side ≡ side)
fits_parts state tag side row is = (search (rules, is), search (rules, is))

-- the row that allows it
allowing : (rows : List Row) (state tag side next : ℕ) → allowed rows state tag side ≡ Some next → (i : ℕ) × (i < length rows) × (fits state tag side (row_at rows i) ≡ true)
allowing [] state tag side next is = absurd (none-some _ is)
allowing (row ∷ rows) state tag side next is =
    elim (cases_Bool (fits state tag side row)) [
      | inl fit ↦ (0, omega arith, fit)
      | inr unfit ↦ let rest = allowing rows state tag side next (rw unfit at is) in (suc rest.0, omega (arith, rest.1), rest.2)
    ]

-- all that a state allows has one sending side
pub one_side : (rows : List Row) (state tag tag' side side' next next' : ℕ) → IsValid rows → allowed rows state tag side ≡ Some next → allowed rows state tag' side' ≡ Some next' → side ≡ side'
one_side rows state tag tag' side side' next next' valid a b =
    let x = allowing rows state tag side next a in
    let y = allowing rows state tag' side' next' b in
    let p = fits_parts state tag side (row_at rows x.0) x.2 in
    let q = fits_parts state tag' side' (row_at rows y.0) y.2 in
    grind (arith, p.0, p.1, q.0, q.1, x.1, y.1, valid x.0 y.0, valid y.0 x.0)

pub cases_Option : (o : Option ℕ) → (o ≡ None) ⊎ ((n : ℕ) × (o ≡ Some n))
cases_Option None = inl refl
cases_Option (Some n) = inr (n, refl)

-- one more tag at the end
pub walk_snoc : (rows : List Row) (side state tag : ℕ) (tags : List ℕ) (end next : ℕ) → walk rows side state tags ≡ Some end → allowed rows end tag side ≡ Some next
    → walk rows side state (tags ++ tag ∷ []) ≡ Some next
walk_snoc rows side state tag [] end next walked is = rw (same_Some _ _ walked, is) refl
walk_snoc rows side state tag (t ∷ ts) end next walked is =
    elim (cases_Option (allowed rows state t side)) [
      | inl none ↦ absurd (none-some _ (rw none at walked))
      | inr some ↦ rw some.1 (walk_snoc rows side some.0 tag ts end next (rw some.1 at walked) is)
    ]

-- an end puts a tag that it may put
pub put_step : (rows : List Row) (side state tag next state' : ℕ) (tags tags' : List ℕ) → IsValid rows → InStep rows side state tags state' tags' → allowed rows state tag side ≡ Some next
    → InStep rows side next tags state' (tags' ++ tag ∷ [])
put_step rows side state tag next state' [] tags' valid step is = (sym (walk_snoc rows side state' tag tags' state next (sym step.0) is), inl refl)
put_step rows side state tag next state' (t ∷ ts) (u ∷ us) valid step is = absurd (elim step.1 [ inl e ↦ cc | inr e ↦ cc ])
put_step rows side state tag next state' (t ∷ ts) [] valid step is =
    elim (cases_Option (allowed rows state t (1 - side))) [
      | inl none ↦ absurd (none-some _ (rw none at step.0))
      | inr some ↦ absurd (let one : side ≡ 1 - side = one_side rows state tag t side (1 - side) next some.0 valid is some.1 in omega arith)
    ]

-- an end takes the tag at its front
pub take_step : (rows : List Row) (side state tag state' : ℕ) (tags tags' : List ℕ) → InStep rows side state (tag ∷ tags) state' tags' → (next : ℕ)
    × (allowed rows state tag (1 - side) ≡ Some next) × InStep rows side next tags state' tags'
take_step rows side state tag state' tags (t ∷ ts) step = absurd (elim step.1 [ inl e ↦ cc | inr e ↦ cc ])
take_step rows side state tag state' tags [] step =
    elim (cases_Option (allowed rows state tag (1 - side))) [
      | inl none ↦ absurd (none-some _ (rw none at step.0))
      | inr some ↦ (some.0, some.1, (rw some.1 at step.0, inr refl))
    ]

-- the same from the other end
pub swap_step : (rows : List Row) (state state' : ℕ) (tags tags' : List ℕ) → InStep rows 0 state tags state' tags' → InStep rows 1 state' tags' state tags
swap_step rows state state' tags tags' step = (sym step.0, elim step.1 [ inl none ↦ inr none | inr none ↦ inl none ])

-- what is at the front is allowed
pub front_step : (rows : List Row) (side state state' : ℕ) (tags tags' : List ℕ) → InStep rows side state tags state' tags' → IsFrontAllowed rows side state tags
front_step rows side state state' [] tags' step = tt
front_step rows side state state' (tag ∷ tags) tags' step = rw ((take_step rows side state tag state' tags tags' step).1) refl

-- an end takes all that waits for it
pub drain_step : (rows : List Row) (side state state' : ℕ) (tags tags' : List ℕ) → InStep rows side state tags state' tags' → (end : ℕ) × (walk rows (1 - side) state tags ≡ Some end)
    × InStep rows side end [] state' tags'
drain_step rows side state state' [] tags' step = (state, refl, step)
drain_step rows side state state' (t ∷ ts) (u ∷ us) step = absurd (elim step.1 [ inl e ↦ cc | inr e ↦ cc ])
drain_step rows side state state' (t ∷ ts) [] step = (state', step.0, (refl, inl refl))
