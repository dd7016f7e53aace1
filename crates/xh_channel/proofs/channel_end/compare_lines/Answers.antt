use Rattle.xh_channel.proofs.Common.{AgreesWith, EndpointOf, subst, ◌∙◌}
use Rattle.xh_channel.proofs.Ends.{seen_lined}
use Rattle.xh_channel.proofs.channel_end.compare_lines.Goals as goal

pub returns-clause-agree : goal.returns-clause-agree
returns-clause-agree c =
    let low = seen_lined c.low.invariant c.low.view_is c.requires.1 in
    let high = seen_lined c.high.invariant c.high.view_is (c.requires.0.contract ∙ c.requires.1) in
    subst (λ (z : EndpointOf × EndpointOf). AgreesWith z.0 z.1 × AgreesWith z.1 z.0) (λ i. (low i, high i)) (c.compare-line.ensures.agree c.args.low c.args.high)
