use Rattle.xh_script.proofs.Writings.{goes_on, stops_at, answers_at}
use Rattle.xh_script.proofs.replies.write_answers.Goals as goal

pub returns-in_err-write_reply : goal.returns-in_err-write_reply
returns-in_err-write_reply g c =
    stops_at g.W.Write.contents _ _ _ _ _ _ _ _ _ c.loop-answered.invariant
    (answers_at c.args.answers.now c.loop-answered.answered-index c.answered-item.result c.answered-item.is c.loop-answered-test.true)
    c.from_residual.ensures.1 c.in_err-write_reply.ensures

pub loop-answered-preserved : goal.loop-answered-preserved
loop-answered-preserved g c =
    goes_on g.W.Write.contents _ _ _ _ _ _ _ c.loop-answered.invariant
    (answers_at c.args.answers.now c.loop-answered.answered-index c.answered-item.result c.answered-item.is c.loop-answered-test.true)
    c.in_ok-write_reply.ensures
