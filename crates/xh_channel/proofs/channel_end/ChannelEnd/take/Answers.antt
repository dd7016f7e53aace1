use Rattle.xh_channel.proofs.Common.{EndpointOf, EndpointTakes, ap, is_some, length, on_line, rules, sym, ◌∙◌}
use Rattle.xh_channel.proofs.Ends.{as_seat, is_ruled, still_end, take_sent}
use Rattle.xh_channel.proofs.channel_end.ChannelEnd.take.Goals as goal

pub invariant_of-self : goal.invariant_of-self
invariant_of-self g c =
    let i = c.self.invariant in let e = c.args.self.now in let l = c.take.new.self in
    let has = ap (λ (f : EndpointOf). is_some f.contract) (sym c.self.view_is) ∙ is_ruled _ _ ∙ c.if-self.true in
    still_end i c.self.view_is has l c.take.ensures.same c.self.inside.put i.numbers
    ((i.by_line c.if-self.true).3 ∙ ap length (sym (take_sent (on_line e c.self.inside.line) (on_line e l) c.take.result (c.take.ensures.taken e (search rules)))))

pub returns-then-self : goal.returns-then-self
returns-then-self g c =
    let has = ap (λ (f : EndpointOf). is_some f.contract) (sym c.self.view_is) ∙ is_ruled _ _ ∙ c.if-self.true in
    record { taken = as_seat c.self.invariant c.self.view_is has c.take.new.self c.take.ensures.same.1 (EndpointTakes c.take.result) c.take.ensures.taken c.self.inside.put }
