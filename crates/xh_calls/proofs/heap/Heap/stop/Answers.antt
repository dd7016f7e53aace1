use Rattle.xh_calls.proofs.Common.{arith, rules, stays_itself}
use Rattle.xh_calls.proofs.Moved.{came, none_given}
use Rattle.xh_calls.proofs.heap.Heap.stop.Goals as goal

pub returns-in_err-check_number-clause-stopped : goal.returns-in_err-check_number-clause-stopped
returns-in_err-check_number-clause-stopped g c = let same = stays_itself c.args.place.now in (0, grind (arith, same), none_given c.args.till.now)

pub returns-clause-stopped : goal.returns-clause-stopped
returns-clause-stopped g c =
    let d = c.stop-answer.ensures.stopped in let does = d.1 in
    (d.0, search (rules, does), came g.N.Names.parts c.lend-desk.result.vaults c.stop-answer.new.desk.vaults (λ l. l.till) c.lend-desk.ensures.1 c.end.ensures.0 d.2)
