use Rattle.xh_calls.proofs.Common.{arith, rules, stays_itself}
use Rattle.xh_calls.proofs.Moved.{came, none_given}
use Rattle.xh_calls.proofs.heap.Heap.close.Goals as goal

pub returns-in_err-check_number-clause-closed : goal.returns-in_err-check_number-clause-closed
returns-in_err-check_number-clause-closed g c = let same = stays_itself c.args.place.now in (0, grind (arith, same), none_given c.args.till.now)

pub returns-clause-closed : goal.returns-clause-closed
returns-clause-closed g c =
    let d = c.close_end-answer.ensures.closed in let does = d.1 in
    (d.0, search (rules, does), came g.N.Names.parts c.lend-desk.result.vaults c.close_end-answer.new.desk.vaults (λ l. l.till) c.lend-desk.ensures.1 c.end.ensures.0 d.2)
