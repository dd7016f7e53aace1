use Rattle.std.proofs.Common.{refl}
use Rattle.std.proofs.lemmas.Result.{MatchResult-from_both}
use Rattle.xh_runner.proofs.worker.WorkerMachine.glance.Goals as goal

pub returns : goal.returns
returns g c = (refl, MatchResult-from_both c.glance.result _ _ c.glance.ensures.seen c.glance.ensures.refused)
