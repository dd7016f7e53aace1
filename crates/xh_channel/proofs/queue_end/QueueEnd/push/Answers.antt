use Rattle.xh_channel.proofs.Common.{QueueView, ap, length, suc, sym, ◌∙◌}
use Rattle.xh_channel.proofs.Moves.{sender_learns, sends}
use Rattle.xh_channel.proofs.queue_end.QueueEnd.push.Goals as goal

pub push_as-requires-clause-rule : goal.push_as-requires-clause-rule
push_as-requires-clause-rule g c =
    let may = ap (λ (e : QueueView). e.role.pushes) c.self.view_is ∙ c.requires.0 in
    (sends _ _ _ _ may (c.requires.1 ∙ ap (λ (e : QueueView). suc (length e.role.sent)) (sym c.self.view_is)), sender_learns _ _ may)
