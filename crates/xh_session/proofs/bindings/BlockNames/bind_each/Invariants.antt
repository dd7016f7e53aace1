use Rattle.xh_session.proofs.Common.{bound_each, drop, ◌≡◌}
use Rattle.xh_session.proofs.bindings.BlockNames.bind_each.Given as goal

abbrev pub invariant-loop-i : goal.invariant-loop-i
invariant-loop-i l = bound_each l.self l.process (drop l.i l.words) (drop l.i l.message) ≡ bound_each l.fn.self l.process l.words l.message
