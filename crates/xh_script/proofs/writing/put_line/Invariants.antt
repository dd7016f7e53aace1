use Rattle.xh_script.proofs.Common.{drop, line_text, map, piece_text, words_text}
use Rattle.xh_script.proofs.Writings.{Wrote}
use Rattle.xh_script.proofs.writing.put_line.Given as goal

abbrev pub invariant-loop-word : goal.invariant-loop-word
invariant-loop-word g l =
    Wrote g.W.Write.contents l.fn.writer l.writer (line_text (piece_text l.fn.first) (map piece_text l.words)) (words_text (map piece_text (drop l.word-index l.words)))
