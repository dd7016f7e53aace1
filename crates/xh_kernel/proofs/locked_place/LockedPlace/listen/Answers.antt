use Rattle.xh_kernel.proofs.Common.{rules, stays_again}
use Rattle.xh_kernel.proofs.locked_place.LockedPlace.listen.Goals as goal

pub loop-e-preserved : goal.loop-e-preserved
loop-e-preserved g c = (stays_again c.args.self.now.place c.loop-e.self.place c.spot.new.self.place c.loop-e.invariant.0 c.spot.ensures.0, search rules)
