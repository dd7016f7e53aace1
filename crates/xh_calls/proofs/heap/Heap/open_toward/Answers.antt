use Rattle.xh_calls.proofs.Common.{rules, toward_high}
use Rattle.xh_calls.proofs.Wiring.{passed_since}
use Rattle.xh_calls.proofs.heap.Heap.open_toward.Goals as goal

pub returns-clause-opened : goal.returns-clause-opened
returns-clause-opened g c =
    let mid = c.open.new.place in
    let since = passed_since (toward_high c.in-Some.spot.channel) c.in_ok-low.high.rec mid c.spot.new.self c.pass_end.new.self c.in-Some.ensures.same c.pass_end.ensures in
    (mid, c.in_ok-low.ensures.opened, search rules, since)
