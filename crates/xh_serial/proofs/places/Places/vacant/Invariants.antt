use Rattle.xh_serial.proofs.Common.{no_place, replicate, ◌≡◌}
use Rattle.xh_serial.proofs.places.Places.vacant.Given as goal

abbrev pub invariant-loop : goal.invariant-loop
invariant-loop l = l.places.items ≡ replicate l.counter (no_place)
