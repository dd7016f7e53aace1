-- What contracts see of an endpoint.
use Rattle.std.specs.Prelude.{ℕ, Bool, List, Option}
use Rattle.atomic_table.specs.Seated.{TableId}
use Rattle.xh_model.specs.declared.row.Row.{Row}
use Rattle.xh_channel.specs.declared.message.Message.{Message}
use Rattle.xh_channel.specs.declared.spot.Spot.{Spot}

-- Its spot; how many messages may wait in a direction; the rows of its channel's contract, if there is one, and its state by them, 0 without a contract;
-- the tables of its two queues, of the closed words and of its line.
-- Of what it did: the messages that it sent, all that it pushed and what it took, in order, and whether it was shut.
-- Of its peer: whether it saw or was told that it is shut, and how many messages it was told that it put and took (by what an end saw alone a take that never pops would meet its clause)
pub record EndpointOf : Type 0 where
  pub spot : Spot
  pub depth : ℕ
  pub contract : Option (List Row)
  pub state : ℕ
  pub out : TableId
  pub into : TableId
  pub closed : TableId
  pub line : TableId
  pub sent : List Message
  pub pushed : List Message
  pub got : List Message
  pub shut : Bool
  pub peer_shut : Bool
  pub told_put : ℕ
  pub told_taken : ℕ
