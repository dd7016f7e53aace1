use Rattle.xh_channel.proofs.Common.{◌≡◌}
use Rattle.xh_channel.proofs.line_steps.lock.Given as goal

abbrev pub invariant-loop : goal.invariant-loop
invariant-loop g l = (l.token.table_id ≡ l.initial.token.table_id) × (l.token.id ≡ l.initial.token.id) × (l.token.me ≡ l.initial.token.me)
