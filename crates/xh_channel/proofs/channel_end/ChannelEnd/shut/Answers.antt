use Rattle.xh_channel.proofs.Common.{EndpointOf, EndpointShuts, ap, is_some, length, rules, sym, ◌∙◌}
use Rattle.xh_channel.proofs.Ends.{as_seat, is_ruled, still_end}
use Rattle.xh_channel.proofs.channel_end.ChannelEnd.shut.Goals as goal

pub invariant_of-self : goal.invariant_of-self
invariant_of-self g c =
    let i = c.self.invariant in
    let has = ap (λ (f : EndpointOf). is_some f.contract) (sym c.self.view_is) ∙ is_ruled _ _ ∙ c.if-self.true in
    still_end i c.self.view_is has c.shut.new.self c.shut.ensures.same c.self.inside.put i.numbers
    ((i.by_line c.if-self.true).3 ∙ ap (λ (e : EndpointOf). length e.sent) (sym (c.shut.ensures.shut c.args.self.now (search rules)).0))

pub returns-then-self : goal.returns-then-self
returns-then-self g c =
    let has = ap (λ (f : EndpointOf). is_some f.contract) (sym c.self.view_is) ∙ is_ruled _ _ ∙ c.if-self.true in
    as_seat c.self.invariant c.self.view_is has c.shut.new.self c.shut.ensures.same.1 EndpointShuts c.shut.ensures.shut c.self.inside.put
