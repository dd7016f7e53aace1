use Rattle.xh_serial.proofs.Common.{None, blank, replicate, ◌≡◌}
use Rattle.xh_serial.proofs.blocks.Blocks.none.Given as goal

abbrev pub invariant-loop : goal.invariant-loop
invariant-loop l = l.bodies.items ≡ replicate l.counter (blank None)
