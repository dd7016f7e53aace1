use Rattle.xh_calls.proofs.Common.{toward_high}
use Rattle.xh_calls.proofs.Moved.{came, received}
use Rattle.xh_calls.proofs.heap.Heap.receive.Goals as goal

pub returns-clause-received : goal.returns-clause-received
returns-clause-received g c =
    let d = received _ _ c.args.q c.args.r (toward_high c.args.channel) c.args.place.now c.accept_end-answer.new.self c.accept_end-answer.result c.accept_end-answer.ensures.accepted in
    (d.0, d.1, came g.N.Names.parts c.lend-desk.result.vaults c.accept_end-answer.new.desk.vaults (λ l. l.till) c.lend-desk.ensures.1 c.end.ensures.0 d.2)
