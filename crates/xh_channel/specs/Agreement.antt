-- What both ends of a channel show.
use Rattle.std.specs.Prelude.{◌≡◌, ◌+◌, ◌≤◌, true, false, List, is_some, length}
use Rattle.xh_channel.specs.declared.message.Message.{Message}
use Rattle.xh_channel.specs.Directions.{WaitsAfter}
use Rattle.xh_channel.specs.Endpoint.{EndpointOf}

-- an end that was told all that its peer did
abbrev pub told_all : EndpointOf → EndpointOf → EndpointOf
told_all end peer = record end { peer_shut = peer.shut; told_put = length peer.pushed; told_taken = length peer.got }

-- the two ends of one channel
pub record ArePeers (one other : EndpointOf) : Type 0 where
  pub channel : other.spot.channel ≡ one.spot.channel
  pub sides : one.spot.side + other.spot.side ≡ 1
  pub to_other : other.into ≡ one.out
  pub to_one : other.out ≡ one.into
  pub closed : other.closed ≡ one.closed
  pub line : other.line ≡ one.line
  pub contract : is_some other.contract ≡ is_some one.contract

-- what an end saw or was told of its peer is no more than the peer did, what it took is a prefix of what the peer pushed, and where it saw no shut peer it sent all that it pushed
pub record AgreesWith (end peer : EndpointOf) : Type 0 where
  pub told_put : end.told_put ≤ length peer.pushed
  pub told_taken : end.told_taken ≤ length peer.got
  pub told_shut : end.peer_shut ≡ true → peer.shut ≡ true
  pub taken : (items : List Message) × WaitsAfter peer.pushed end.got items
  pub sent : end.peer_shut ≡ false → end.pushed ≡ end.sent
