-- An end's seat at the line of a channel with a contract, as contracts see it.
use Rattle.std.specs.Prelude.{◌≡◌, ℕ, ◌≤◌, Bool, false, List, [], length, Some}
use Rattle.atomic_table.specs.Seated.{TableId}
use Rattle.xh_model.specs.declared.row.Row.{Row}
use Rattle.xh_model.specs.Rows.{row_at}
use Rattle.xh_channel.specs.declared.message.Message.{Message}
use Rattle.xh_channel.specs.Endpoint.{EndpointOf}

-- Its table and its side; the contract's rows and the depth, which is 0 before the line is begun; its state; the messages that it put and took, and whether it was shut.
-- Of its peer: whether it saw or was told that it is shut, and how many messages it was told that it put and took
pub record LineView : Type 0 where
  pub table : TableId
  pub side : ℕ
  pub rows : List Row
  pub depth : ℕ
  pub state : ℕ
  pub sent : List Message
  pub got : List Message
  pub shut : Bool
  pub peer_shut : Bool
  pub told_put : ℕ
  pub told_taken : ℕ

abbrev pub IsBegun : LineView → Type 0
IsBegun s = 1 ≤ s.depth

-- nothing was put, taken or shut, and nothing was told
abbrev pub IsBlank : LineView → Type 0
IsBlank s = (s.sent ≡ []) × (s.got ≡ []) × (s.shut ≡ false) × (s.peer_shut ≡ false) × (s.told_put ≡ 0) × (s.told_taken ≡ 0)

-- the two seats of a line
abbrev pub AreAcross : LineView → LineView → Type 0
AreAcross low high = (low.side ≡ 0) × (high.side ≡ 1) × (high.table ≡ low.table)

-- it goes by the contract now, in its first state
abbrev pub begun : List Row → ℕ → LineView → LineView
begun rows depth s = record s { rows = rows; depth = depth; state = (row_at rows 0).state }

-- an endpoint of this spot, with these queues and closed words, whose channel goes by the contract and whose seat this is
abbrev pub on_line : EndpointOf → LineView → EndpointOf
on_line e s = record e {
  depth = s.depth;
  contract = Some s.rows;
  state = s.state;
  line = s.table;
  sent = s.sent;
  pushed = s.sent;
  got = s.got;
  shut = s.shut;
  peer_shut = s.peer_shut;
  told_put = s.told_put;
  told_taken = s.told_taken;
}

-- from the one view of its seat to the other an endpoint did what `does` says
abbrev pub SeatDoes : LineView → LineView → (EndpointOf → EndpointOf → Type 0) → Type 0
SeatDoes old new does = (e : EndpointOf) → e.spot.side ≡ old.side → does (on_line e old) (on_line e new)

-- a seat that was told all that its peer did
abbrev pub told_across : LineView → LineView → LineView
told_across s peer = record s { peer_shut = peer.shut; told_put = length peer.sent; told_taken = length peer.got }
