use Rattle.xh_script.proofs.Common.{drop, flight_texts}
use Rattle.xh_script.proofs.Writings.{Wrote}
use Rattle.xh_script.proofs.ledgers.write_flight.Given as goal

abbrev pub invariant-loop-line : goal.invariant-loop-line
invariant-loop-line g l = Wrote g.W.Write.contents l.fn.writer l.writer (flight_texts l.lines) (flight_texts (drop l.line-index l.lines))
