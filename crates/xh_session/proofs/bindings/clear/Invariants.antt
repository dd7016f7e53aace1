use Rattle.xh_session.proofs.Common.{cleared, drop, take, ◌++◌, ◌≡◌}
use Rattle.xh_session.proofs.bindings.clear.Given as goal

abbrev pub invariant-loop-entry : goal.invariant-loop-entry
invariant-loop-entry l = l.entries ≡ cleared l.rec (take l.entry-index l.fn.entries) ++ drop l.entry-index l.fn.entries
