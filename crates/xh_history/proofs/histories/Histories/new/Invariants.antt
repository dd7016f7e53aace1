use Rattle.std.proofs.Common.{◌≡◌, ◌<◌, ◌≤◌, [], All, ℕ, vec_len, vec_capacity}
use Rattle.std.specs.Prelude.{slice_index_or}
use Rattle.xh_model.specs.declared.limits.TheConstants.{PLACES}
use Rattle.xh_history.specs.Histories.{FrontOf, PenOf, fresh_front, fresh_look, fresh_pen}
use Rattle.xh_history.specs.inner.Views.{view_from}
use Rattle.xh_history.proofs.histories.Histories.new.Given as goal

abbrev pub invariant-loop : goal.invariant-loop
invariant-loop g l =
    (vec_len l.lookers ≡ l.counter) × (l.first.table_id ≡ l.table.shared.table_id) × (l.first.me.0 ≡ view_from 0 0) × All (λ k. k ≡ fresh_look l.table.shared.table_id) l.lookers.items
    × (l.looks ≤ vec_capacity l.lookers) × (l.workers ≤ vec_capacity l.fronts) × (PLACES ≤ vec_capacity l.pens) × (l.fronts.items ≡ []) × (l.pens.items ≡ [])

abbrev pub invariant-loop-number : goal.invariant-loop-number
invariant-loop-number g l =
    (vec_len l.fronts ≡ l.number) × (l.first.table_id ≡ l.table.shared.table_id) × (l.first.me.0 ≡ view_from 0 l.number)
    × ((k : ℕ) (d : FrontOf g.row.E.Denot) → k < vec_len l.fronts → slice_index_or l.fronts.items k d ≡ fresh_front l.table.shared.table_id k)
    × (l.workers ≤ vec_capacity l.fronts) × (PLACES ≤ vec_capacity l.pens) × (l.pens.items ≡ [])

abbrev pub invariant-loop-place : goal.invariant-loop-place
invariant-loop-place g l =
    (vec_len l.pens ≡ l.place) × (l.first.table_id ≡ l.table.shared.table_id) × (l.first.me.0 ≡ view_from l.place l.workers)
    × ((k : ℕ) (d : PenOf g.row.E.Denot) → k < vec_len l.pens → slice_index_or l.pens.items k d ≡ fresh_pen l.table.shared.table_id k) × (PLACES ≤ vec_capacity l.pens)
