use Rattle.xh_channel.proofs.Common.{AgreesWith, EndpointOf, rules, subst, ◌∙◌}
use Rattle.xh_channel.proofs.Ends.{agrees, ruled}
use Rattle.xh_channel.proofs.channel_end.compare_queues.Goals as goal

pub returns-clause-agree : goal.returns-clause-agree
returns-clause-agree c =
    let one = c.one in
    let other = c.other in
    let first = c.compare-sender.ensures in
    let second = c.compare-peers.ensures in
    let a = ruled one.invariant one.view_is _ c.requires.1 in
    let b = ruled other.invariant other.view_is _ (c.requires.0.contract ∙ c.requires.1) in
    let x = one.inside in
    let y = other.inside in
    subst (λ (z : EndpointOf × EndpointOf). AgreesWith z.0 z.1 × AgreesWith z.1 z.0) (λ i. (one.view_is i, other.view_is i)) (
      agrees x.spot y.spot _ _ x.sender y.sender x.receiver y.receiver x.word y.word _ _ x.line y.line a b second.grows.1 first.grows.0 second.prefix (one.invariant.by_queues a).2 (search rules),
      agrees y.spot x.spot _ _ y.sender x.sender y.receiver x.receiver y.word x.word _ _ y.line x.line b a first.grows.1 second.grows.0 first.prefix (other.invariant.by_queues b).2 (search rules),
    )
