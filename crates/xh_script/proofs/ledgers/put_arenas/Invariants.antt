use Rattle.xh_script.proofs.Common.{arena_texts, drop}
use Rattle.xh_script.proofs.Writings.{Wrote}
use Rattle.xh_script.proofs.ledgers.put_arenas.Given as goal

abbrev pub invariant-loop-number : goal.invariant-loop-number
invariant-loop-number g l = Wrote g.W.Write.contents l.fn.writer l.writer (arena_texts 0 l.arenas) (arena_texts l.number (drop l.number l.arenas))
