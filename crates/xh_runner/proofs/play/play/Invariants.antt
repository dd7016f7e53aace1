use Rattle.xh_runner.proofs.Common.{DoesAmong, Plays, part, suc, take, world_of}
use Rattle.xh_runner.proofs.play.play.Given as goal

abbrev pub invariant-loop-line : goal.invariant-loop-line
invariant-loop-line g l = Plays (DoesAmong g.M.Machine.did l.crew.lines.now) (world_of g.M.Machine.state l.fn.session)
    (part l.crew.ready.now.processes (suc l.place) (take l.line-index l.crew.lines.now)) l.replies.items (world_of g.M.Machine.state l.session)
