use Rattle.std.proofs.Common.{◌≡◌, ◌≤◌, length}
use Rattle.xh_records.specs.Seats.{IsSeatOf}
use Rattle.xh_records_tests.proofs.records.threads.claim_all.Given as goal

abbrev pub invariant-loop-round : goal.invariant-loop-round
invariant-loop-round l = record {
  own : IsSeatOf l.records l.seat;
  same : l.seat.process ≡ l.fn.seat.process;
  few : length l.claimed.items ≤ l.round;
}
