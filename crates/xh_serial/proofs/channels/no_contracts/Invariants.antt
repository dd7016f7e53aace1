use Rattle.xh_serial.proofs.Common.{None, replicate, ◌≡◌}
use Rattle.xh_serial.proofs.channels.no_contracts.Given as goal

abbrev pub invariant-loop : goal.invariant-loop
invariant-loop l = l.contracts.items ≡ replicate l.counter (None)
