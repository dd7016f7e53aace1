use Rattle.xh_channel.proofs.Common.{length, ◌≡◌}
use Rattle.xh_channel.proofs.waiting.hang.Given as goal

abbrev pub invariant-loop : goal.invariant-loop
invariant-loop l = length l.all.items ≡ l.counter
