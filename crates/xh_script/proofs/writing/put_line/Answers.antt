use Rattle.xh_script.proofs.Common.{at_drop_all, at_drop_more, map, piece_text, words_text}
use Rattle.xh_script.proofs.Writings.{ends, goes_on, stops, stops_at}
use Rattle.xh_script.proofs.writing.put_line.Goals as goal

pub returns-in_err-put_piece : goal.returns-in_err-put_piece
returns-in_err-put_piece g c = stops g.W.Write.contents _ _ _ _ _ _ c.from_residual.ensures.1 c.in_err-put_piece.ensures

pub returns-in_err-put_word : goal.returns-in_err-put_word
returns-in_err-put_word g c =
    stops_at g.W.Write.contents _ _ _ _ _ _ _ _ _ c.loop-word.invariant (at_drop_more (λ ws. words_text (map piece_text ws)) c.args.words.now c.loop-word.word-index _ c.loop-word-test.true)
    c.from_residual-in_err-put_word.ensures.1 c.in_err-put_word.ensures

pub loop-word-preserved : goal.loop-word-preserved
loop-word-preserved g c =
    goes_on g.W.Write.contents _ _ _ _ _ _ _ c.loop-word.invariant (at_drop_more (λ ws. words_text (map piece_text ws)) c.args.words.now c.loop-word.word-index _ c.loop-word-test.true)
    c.in_ok-put_word.ensures

pub returns : goal.returns
returns g c =
    ends g.W.Write.contents _ _ _ c.put.result _ _ c.loop-word.invariant
    (rw (at_drop_all (λ ws. words_text (map piece_text ws)) c.args.words.now c.loop-word.word-index c.loop-word-test.false) c.put.ensures)
