-- Two ends that are in step are orderly.
use Rattle.xh_core.proofs.Common.{AreOrderly, InStep, List, front_step, inl, inr, swap_step, sym, ℕ}
use Rattle.xh_model.specs.declared.row.Row.{Row}

pub orderly : (rows : List Row) (state state' : ℕ) (tags tags' : List ℕ) → InStep rows 0 state tags state' tags' → AreOrderly rows state tags state' tags'
orderly rows state state' tags tags' step = (
  front_step rows 0 state state' tags tags' step,
  front_step rows 1 state' state tags' tags (swap_step rows state state' tags tags' step),
  step.1,
)

-- the same from the other end
pub orderly_by_right : (rows : List Row) (state state' : ℕ) (tags tags' : List ℕ) → InStep rows 1 state' tags' state tags → AreOrderly rows state tags state' tags'
orderly_by_right rows state state' tags tags' step = orderly rows state state' tags tags' (sym step.0, elim step.1 [ inl none ↦ inr none | inr none ↦ inl none ])
