use Rattle.xh_channel.proofs.Common.{EndpointOf, EndpointPuts, Err, Ok, ap, length, on_line, rules, sym, ◌∙◌}
use Rattle.xh_channel.proofs.Ends.{as_seat, put_sent, ruled, still_end}
use Rattle.xh_channel.proofs.channel_end.ChannelEnd.put_on_line.Goals as goal

pub invariant_of-self : goal.invariant_of-self
invariant_of-self g c =
    let e = c.args.self.now in let l = c.put.new.self in let no = c.in-Ok.no in let put = c.in-Ok.ensures.put e (search rules) in
    still_end c.self.invariant c.self.view_is c.requires l c.put.ensures.same no c.in-Ok.ensures.last
    (put_sent (on_line e c.self.inside.line) (on_line e l) _ no put.2 put.0)

pub invariant_of-self-in-Err : goal.invariant_of-self-in-Err
invariant_of-self-in-Err g c =
    let i = c.self.invariant in let saw = (c.in-Err.ensures.put c.args.self.now (search rules)).1 in
    still_end i c.self.view_is c.requires c.put.new.self c.put.ensures.same c.self.inside.put i.numbers
    ((i.by_line (ruled i c.self.view_is _ c.requires)).3 ∙ ap (λ (e : EndpointOf). length e.sent) (sym saw.0))

pub returns-in-Ok-clause-put : goal.returns-in-Ok-clause-put
returns-in-Ok-clause-put g c = as_seat c.self.invariant c.self.view_is c.requires c.put.new.self c.put.ensures.same.1
    (EndpointPuts c.args.tag c.args.blocks (Ok c.in-Ok.no)) c.in-Ok.ensures.put c.in-Ok.no

pub returns-in-Err-clause-put : goal.returns-in-Err-clause-put
returns-in-Err-clause-put g c = as_seat c.self.invariant c.self.view_is c.requires c.put.new.self c.put.ensures.same.1
    (EndpointPuts c.args.tag c.args.blocks (Err c.in-Err.unsent)) c.in-Err.ensures.put c.self.inside.put
