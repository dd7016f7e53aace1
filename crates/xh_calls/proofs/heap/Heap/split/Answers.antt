use Rattle.xh_calls.proofs.Common.{MAX_RECORDS, arith, rules, stays_itself, ◌/◌}
use Rattle.xh_calls.proofs.Started.{unclaimed}
use Rattle.xh_calls.proofs.heap.Heap.split.Goals as goal

pub returns-in_err-check_number-clause-cut : goal.returns-in_err-check_number-clause-cut
returns-in_err-check_number-clause-cut g c =
    let place = c.args.place.now in record {
      cut = search rules;
      refused = unclaimed c.from_residual.result 1 (c.args.r / MAX_RECORDS) place;
      why = let same = stays_itself place in grind (arith, same);
    }
