use Rattle.xh_serial.proofs.Common.{no_line, replicate, ◌≡◌}
use Rattle.xh_serial.proofs.channels.new_lines.Given as goal

abbrev pub invariant-loop : goal.invariant-loop
invariant-loop l = l.lines.items ≡ replicate l.counter (no_line)
