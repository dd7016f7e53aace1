use Rattle.xh_runner.proofs.Common.{add-one, arith, rules}
use Rattle.xh_runner.proofs.Plays.{zips_begin, zips_end, zips_more}
use Rattle.xh_runner.proofs.crew.start_all.Goals as goal

pub loop-machine-init : goal.loop-machine-init
loop-machine-init g c = record {
  count = search rules;
  hands = zips_begin _ _ _ _ c.in_ok-hands.ensures.items c.into_iter-machine-iterator.ensures.into_iter_gives.0;
}

pub loop-machine-preserved : goal.loop-machine-preserved
loop-machine-preserved g c = record {
  count = omega (arith, c.in-Some.ensures.steps.1, c.loop-machine.invariant.count);
  hands = rw (add-one c.loop-machine.place) (zips_more _ _ _ _ _ _ _ _ _ c.in-Some.ensures.steps.0 c.in_ok-push.ensures.items c.in_ok-start.ensures c.loop-machine.invariant.hands);
}

pub returns : goal.returns
returns g c = zips_end _ _ _ _ _ (omega (arith, c.loop-machine.machine-iterator.rest.ok, c.in-None.ensures.steps.0)) c.loop-machine.invariant.hands
