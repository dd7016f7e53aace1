use Rattle.std.specs.List.{AllZip}
use Rattle.xh_runner.proofs.Common.{Joins, MatchResult}
use Rattle.xh_runner.specs.Plays.{MayStop}
use Rattle.xh_runner.proofs.crew.join_all.Given as goal

abbrev pub invariant-loop-hand : goal.invariant-loop-hand
invariant-loop-hand g l = MatchResult l.ended (λ _. AllZip (Joins g.M.Machine.state g.M.Machine.did) l.yielded l.dones.items) (MayStop g.G.Gate.always)
