use Rattle.xh_runner.proofs.Common.{refl, world_of}
use Rattle.xh_runner.proofs.task.Task.work.Goals as goal

pub returns : goal.returns
returns g c = (world_of g.M.Machine.state c.play-played.new.session, rw c.in_ok-replies.was at c.play-played.ensures.played, refl)
