use Rattle.xh_script.proofs.Common.{at_drop_more, flight_texts}
use Rattle.xh_script.proofs.Writings.{goes_on, stops_at}
use Rattle.xh_script.proofs.ledgers.write_flight.Goals as goal

pub returns-in_err-put_flight : goal.returns-in_err-put_flight
returns-in_err-put_flight g c =
    stops_at g.W.Write.contents _ _ _ _ _ _ _ _ _ c.loop-line.invariant (at_drop_more flight_texts c.args.lines.now c.loop-line.line-index _ c.loop-line-test.true)
    c.from_residual.ensures.1 c.in_err-put_flight.ensures

pub loop-line-preserved : goal.loop-line-preserved
loop-line-preserved g c =
    goes_on g.W.Write.contents _ _ _ _ _ _ _ c.loop-line.invariant (at_drop_more flight_texts c.args.lines.now c.loop-line.line-index _ c.loop-line-test.true)
    c.in_ok-put_flight.ensures
