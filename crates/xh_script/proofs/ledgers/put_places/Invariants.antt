use Rattle.xh_script.proofs.Common.{drop, place_texts}
use Rattle.xh_script.proofs.Writings.{Wrote}
use Rattle.xh_script.proofs.ledgers.put_places.Given as goal

abbrev pub invariant-loop-line : goal.invariant-loop-line
invariant-loop-line g l = Wrote g.W.Write.contents l.fn.writer l.writer (place_texts l.names l.lines) (place_texts l.names (drop l.line-index l.lines))
