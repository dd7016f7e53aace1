use Rattle.std.proofs.lemmas.Result.{MatchResult-weaker}
use Rattle.xh_runner.proofs.Plays.{zips_through}
use Rattle.xh_runner.proofs.crew.fn.work.scope.Goals as goal

pub returns : goal.returns
returns g c = MatchResult-weaker c.join_all.result c.join_all.ensures (λ dones joined. zips_through _ _ 0 _ _ _ c.in_ok-hands.ensures joined) (λ _ stop. stop)
