use Rattle.std.proofs.lemmas.Iterator.Adapters.{YieldsList-from_vec}
use Rattle.std.proofs.lemmas.Iterator.Consumers.{YieldsList-end}
use Rattle.std.proofs.lemmas.List.{map-id}
use Rattle.std.proofs.lemmas.Result.{MatchResult-at_ok, MatchResult-weaker}
use Rattle.std.proofs.lemmas.Slice.Zip.{all_zipped_more}
use Rattle.xh_runner.proofs.Common.{sym, ◌∙◌}
use Rattle.xh_runner.proofs.crew.join_all.Goals as goal

pub loop-hand-preserved-in-Continue-1 : goal.loop-hand-preserved-in-Continue-1
loop-hand-preserved-in-Continue-1 g c = MatchResult-weaker c.loop-hand.ended c.loop-hand.invariant
    (λ _ zips. rw c.in_ok-push-in-Ok.ensures.items (all_zipped_more _ _ _ _ _ zips c.in-Ok.ensures)) (λ _ stop. stop)

pub returns : goal.returns
returns g c =
    let gives = c.into_iter-hand-iterator.ensures.into_iter_gives in
    let all = YieldsList-end (YieldsList-from_vec c.args.hands.items gives.0 (gives.1 ∙ c.args.hands.ok.0)) c.loop-hand.yielded c.loop-hand.hand-iterator c.loop-hand.yielded_by c.next.result c.next.new.self c.in-None.is c.next.ensures.steps in
    rw (sym (map-id c.loop-hand.yielded), all.0) at (MatchResult-at_ok _ _ _ c.in_ok-ended.was c.loop-hand.invariant)
