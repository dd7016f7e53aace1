use Rattle.xh_script.proofs.Common.{at_drop_more, place_texts}
use Rattle.xh_script.proofs.Writings.{goes_on, stops_at}
use Rattle.xh_script.proofs.ledgers.put_places.Goals as goal

pub returns-in_err-put_place : goal.returns-in_err-put_place
returns-in_err-put_place g c =
    stops_at g.W.Write.contents _ _ _ _ _ _ _ _ _ c.loop-line.invariant (at_drop_more (place_texts c.args.names.now) c.args.lines.now c.loop-line.line-index _ c.loop-line-test.true)
    c.from_residual.ensures.1 c.in_err-put_place.ensures

pub loop-line-preserved : goal.loop-line-preserved
loop-line-preserved g c =
    goes_on g.W.Write.contents _ _ _ _ _ _ _ c.loop-line.invariant (at_drop_more (place_texts c.args.names.now) c.args.lines.now c.loop-line.line-index _ c.loop-line-test.true)
    c.in_ok-put_place.ensures
