use Rattle.xh_script.proofs.Common.{answer_texts, drop}
use Rattle.xh_script.proofs.Writings.{Wrote}
use Rattle.xh_script.proofs.replies.write_answers.Given as goal

abbrev pub invariant-loop-answered : goal.invariant-loop-answered
invariant-loop-answered g l = Wrote g.W.Write.contents l.fn.writer l.writer (answer_texts l.answers) (answer_texts (drop l.answered-index l.answers))
