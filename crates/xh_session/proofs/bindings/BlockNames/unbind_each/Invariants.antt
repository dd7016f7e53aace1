use Rattle.xh_session.proofs.Common.{drop, unbound_each, ◌≡◌}
use Rattle.xh_serial.specs.MessageCommands.{without_records}
use Rattle.xh_session.proofs.bindings.BlockNames.unbind_each.Given as goal

abbrev pub invariant-loop-rec : goal.invariant-loop-rec
invariant-loop-rec l = unbound_each l.self l.process (without_records l.back (drop l.rec-index l.records)) ≡ unbound_each l.fn.self l.process (without_records l.back l.records)
