use Rattle.xh_runner.proofs.Common.{IsHand, PLACES, into_iter_items, into_iter_len, ◌+◌, ◌≤◌}
use Rattle.xh_runner.proofs.Plays.{ZipsOn}
use Rattle.xh_runner.proofs.crew.start_all.Given as goal

abbrev pub invariant-loop-machine : goal.invariant-loop-machine
invariant-loop-machine g l = record {
  count : into_iter_len l.machine-iterator + l.place ≤ PLACES;
  hands : ZipsOn (IsHand g.M.Machine.state g.M.Machine.did l.crew) l.fn.machines.items l.hands.items l.place (into_iter_items l.machine-iterator);
}
