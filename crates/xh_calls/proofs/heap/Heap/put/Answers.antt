use Rattle.xh_calls.proofs.Common.{length}
use Rattle.xh_calls.proofs.Asking.{asked}
use Rattle.xh_core.specs.Space.{rounded}
use Rattle.xh_calls.proofs.heap.Heap.put.Goals as goal

pub returns-clause-refused : goal.returns-clause-refused
returns-clause-refused g c =
    let e = c.put-answer.ensures in
    asked g.N.Names.parts c.args.arena (rounded (length c.args.bytes.now.items)) c.lend-desk.result.vaults c.put-answer.new.desk.vaults (λ l. l.till) c.lend-desk.ensures.1 c.end.ensures.0 _ _ _ _ _ _
    c.put-answer.result e.untouched e.made.why
