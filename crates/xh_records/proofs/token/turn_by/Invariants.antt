use Rattle.xh_records.proofs.Common.{◌≡◌, ◌-◌, turns}
use Rattle.xh_records.proofs.token.turn_by.Given as goal

abbrev pub invariant-loop-done : goal.invariant-loop-done
invariant-loop-done g l = (l.token.table_id ≡ l.initial.token.table_id) × (l.token.id ≡ l.initial.token.id) × (l.token.me.0 ≡ l.initial.token.me.0)
    × (turns (l.fn.count - l.done) l.token.me.1 ≡ turns l.fn.count l.initial.token.me.1)
