use Rattle.xh_records.proofs.Common.{HasLooked}
use Rattle.xh_records.proofs.records.Records.claim.Given as goal

abbrev pub invariant-loop-index : goal.invariant-loop-index
invariant-loop-index g l = HasLooked l.initial.seat l.seat
