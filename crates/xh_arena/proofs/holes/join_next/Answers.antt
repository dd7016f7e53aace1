use Rattle.xh_arena.proofs.Common.{◌+◌, ◌<◌, ap, ◌∙◌, get_or, length, arith, remove}
use Rattle.xh_arena.proofs.HoleRuns.{refilled, joined}
use Rattle.xh_arena.proofs.holes.join_next.Goals as goal

pub returns-then-next-start : goal.returns-then-next-start
returns-then-next-start c =
    let inside : c.args.at + 1 < length c.args.holes.now.items = omega (arith, c.len.ensures.value, c.if-at-len.false, c.requires.in_list) in
    c.remove.ensures.items ∙ ap (λ xs. remove xs (c.args.at + 1)) (refilled _ _ _ _ c.deref_mut.ensures.value)
    ∙ joined _ _ _ _ inside (ap (λ xs. get_or xs c.args.at (0, 0)) c.deref.ensures.0) (ap (λ xs. get_or xs (c.args.at + 1) (0, 0)) c.deref-2.ensures.0) c.if-next-start.true
