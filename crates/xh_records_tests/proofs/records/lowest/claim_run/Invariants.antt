use Rattle.xh_records.specs.Seats.{IsSeatOf}
use Rattle.xh_records_tests.proofs.records.lowest.claim_run.Given as goal

abbrev pub invariant-loop-number : goal.invariant-loop-number
invariant-loop-number g l = IsSeatOf l.records l.seat
