use Rattle.std.proofs.Common.{rules}
use Rattle.xh_heap.proofs.running.run_named.Goals as goal

pub returns-clause-closed : goal.returns-clause-closed
returns-clause-closed g c =
    let closed = c.in_ok-worked.ensures.closed in let worked = c.work_on-worked.ensures in (
      (_, _, closed.3),
      search (rules, closed.1, closed.2, c.in_ok-plan.is, worked.planned) depth 24 fits 20000,
      search (rules, closed.1, closed.2, c.in_ok-plan.is, worked.answers) depth 24 fits 20000,
    )

pub returns-clause-answers : goal.returns-clause-answers
returns-clause-answers g c =
    let closed = c.in_ok-worked.ensures.closed in let worked = c.work_on-worked.ensures.len in
    search (rules, closed.1, closed.2, c.in_ok-plan.is, worked) depth 24 fits 20000
