use Rattle.std.proofs.lemmas.Grind.{common_steps}
use Rattle.xh_kernel.proofs.Common.{arith, get_or}
use Rattle.xh_kernel.proofs.Compared.{one_seen}
use Rattle.xh_kernel.proofs.finishing.compare_front.Goals as goal

pub loop-pen-preserved : goal.loop-pen-preserved
loop-pen-preserved g c = let l = c.loop-pen in (
  grind (arith, common_steps),
  one_seen c.args.pens.now c.args.front.now l.front c.compare.new.front l.pen-index (get_or l.pens l.pen-index c.pen-item.result) l.invariant.1 (grind (arith, common_steps))
      (λ d. grind (arith, common_steps)) c.compare.ensures.seen c.compare.ensures.front,
)
