-- What contracts see of an end of a queue. An endpoint has the sending end of one, and the receiving end of the other.
use Rattle.std.specs.Prelude.{◌≡◌, ℕ, true, false, [], ◌∷◌, ◌++◌}
use Rattle.atomic_table.specs.Seated.{TableId}
use Rattle.xh_model.specs.Direction.{AreNumberedFrom}
use Rattle.xh_channel.specs.declared.message.Message.{Message}
use Rattle.xh_channel.specs.declared.queue_rule.Role.{Role}
use Rattle.xh_channel.specs.Directions.{role, message_number}

-- its queue, the depth, and its role: whether it pushes or pops, what it pushed or popped, and how many messages it was told that the other end sent and took
pub record QueueView : Type 0 where
  pub queue : TableId
  pub depth : ℕ
  pub role : Role

-- what it pushed and what it popped is numbered, and nothing where it doesn't push or pop
abbrev pub IsRole : Role → Type 0
IsRole v = AreNumberedFrom message_number 0 v.sent × AreNumberedFrom message_number 0 v.got × (v.pushes ≡ false → v.sent ≡ []) × (v.pops ≡ false → v.got ≡ [])

abbrev pub sending : QueueView → Message → QueueView
sending e m = record e { role = record e.role { sent = e.role.sent ++ m ∷ [] } }

abbrev pub getting : QueueView → Message → QueueView
getting e m = record e { role = record e.role { got = e.role.got ++ m ∷ [] } }

-- the ends of a direction that was just made
abbrev pub IsNewDirection : ℕ → QueueView → QueueView → Type 0
IsNewDirection depth o i = (o.depth ≡ depth) × (i.queue ≡ o.queue) × (o.role ≡ role true false [] [] 0 0) × (i.role ≡ role false true [] [] 0 0)
