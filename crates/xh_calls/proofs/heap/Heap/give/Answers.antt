use Rattle.xh_model.specs.Keyed.{value_at}
use Rattle.std.specs.Prelude.{is_some}
use Rattle.xh_calls.proofs.Common.{end_tests, found, given_tests, rules, start, status_at, stays_itself, ◌++◌}
use Rattle.xh_calls.proofs.Started.{stopped_first}
use Rattle.xh_calls.proofs.heap.Heap.give.Goals as goal

pub returns-in_err-check_number-clause-given : goal.returns-in_err-check_number-clause-given
returns-in_err-check_number-clause-given g c =
    let place = c.args.place.now in let more = end_tests (found place.seat c.args.e) ++ given_tests (λ r. is_some (value_at r place.seat.lots)) c.args.e c.args.blocks.now in
    stopped_first (start (status_at c.args.p place)) more c.from_residual.result _ c.in_err-check_number.ensures.unstarted (search rules) _ (stays_itself c.args.place.now)
