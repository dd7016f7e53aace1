use Rattle.xh_channel.proofs.Common.{QueueView, ap, ◌∙◌}
use Rattle.xh_channel.proofs.Moves.{gets, receiver_learns}
use Rattle.xh_channel.proofs.queue_end.QueueEnd.pop.Goals as goal

pub pop_as-requires-clause-rule : goal.pop_as-requires-clause-rule
pop_as-requires-clause-rule g c = let may = ap (λ (e : QueueView). e.role.pops) c.self.view_is ∙ c.requires in (gets _ _ may, receiver_learns _ _ may)
