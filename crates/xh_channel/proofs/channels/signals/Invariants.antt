use Rattle.xh_channel.proofs.Common.{length, ◌≡◌}
use Rattle.xh_channel.proofs.channels.signals.Given as goal

abbrev pub invariant-loop : goal.invariant-loop
invariant-loop l = length l.signals.items ≡ l.counter
