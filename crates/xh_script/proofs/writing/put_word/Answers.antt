use Rattle.xh_script.proofs.Writings.{WritesOrFails-then, stops}
use Rattle.xh_script.proofs.writing.put_word.Goals as goal

pub returns-in_err-put : goal.returns-in_err-put
returns-in_err-put g c = stops g.W.Write.contents _ _ _ _ _ _ c.from_residual.ensures.1 c.in_err-put.ensures

pub returns : goal.returns
returns g c = WritesOrFails-then g.W.Write.contents _ _ _ c.put_piece.result _ _ c.in_ok-put.ensures c.put_piece.ensures
