use Rattle.xh_script.proofs.Common.{arena_texts, at_drop_more}
use Rattle.xh_script.proofs.Writings.{goes_on, stops_at}
use Rattle.xh_script.proofs.ledgers.put_arenas.Goals as goal

pub returns-in_err-put_arena : goal.returns-in_err-put_arena
returns-in_err-put_arena g c =
    stops_at g.W.Write.contents _ _ _ _ _ _ _ _ _ c.loop-number.invariant (at_drop_more (arena_texts c.loop-number.number) c.args.arenas.now c.loop-number.number _ c.loop-number-test.true)
    c.from_residual.ensures.1 c.in_err-put_arena.ensures

pub loop-number-preserved : goal.loop-number-preserved
loop-number-preserved g c =
    goes_on g.W.Write.contents _ _ _ _ _ _ _ c.loop-number.invariant (at_drop_more (arena_texts c.loop-number.number) c.args.arenas.now c.loop-number.number _ c.loop-number-test.true)
    c.in_ok-put_arena.ensures
