use Rattle.std.proofs.lemmas.Result.{MatchResult-weaker}
use Rattle.xh_heap.proofs.handle.HandleProcess.spawn.Goals as goal

pub returns : goal.returns
returns g c = MatchResult-weaker c.start.result c.start.ensures.started (λ p h. (c.in-Some.spare.account.now, h)) (λ why h. h)
