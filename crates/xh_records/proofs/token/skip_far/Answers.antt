use Rattle.xh_records.proofs.Common.{nat_tests, arith}
use Rattle.xh_records.proofs.Elements.{in_range, nth_is}
use Rattle.xh_records.proofs.token.skip_far.Goals as goal

pub loop-end-init : goal.loop-end-init
loop-end-init c = (c.requires.0, in_range c.args.order.now c.requires.0 c.args.slot c.requires.1, omega arith, c.requires.1)

pub loop-end-preserved : goal.loop-end-preserved
loop-end-preserved c = grind (arith, nat_tests, nth_is)
