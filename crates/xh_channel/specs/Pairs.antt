-- The two ends of a channel that was just opened.
use Rattle.std.specs.Prelude.{◌≡◌, ◌<◌, false, List, [], None, Some}
use Rattle.xh_model.specs.declared.limits.TheConstants.{CHANNELS}
use Rattle.xh_model.specs.declared.row.Row.{Row}
use Rattle.xh_model.specs.Rows.{row_at}
use Rattle.xh_channel.specs.Endpoint.{EndpointOf}

-- nothing was put, taken or shut, and nothing was told
pub record IsUnused (end : EndpointOf) : Type 0 where
  pub sent : end.sent ≡ []
  pub pushed : end.pushed ≡ []
  pub got : end.got ≡ []
  pub shut : end.shut ≡ false
  pub peer_shut : end.peer_shut ≡ false
  pub told : (end.told_put ≡ 0) × (end.told_taken ≡ 0)

-- the sides 0 and 1 of one channel, each at the other's queues and both at one line, by the same contract in the same state, both unused
pub record IsPair (low high : EndpointOf) : Type 0 where
  pub number : low.spot.channel < CHANNELS
  pub channel : high.spot.channel ≡ low.spot.channel
  pub low_side : low.spot.side ≡ 0
  pub high_side : high.spot.side ≡ 1
  pub low_unused : IsUnused low
  pub high_unused : IsUnused high
  pub depth : high.depth ≡ low.depth
  pub to_high : high.into ≡ low.out
  pub to_low : high.out ≡ low.into
  pub closed : high.closed ≡ low.closed
  pub line : high.line ≡ low.line
  pub contract : high.contract ≡ low.contract
  pub state : high.state ≡ low.state

-- an end that goes by the contract, in its first state
abbrev pub ruled_by : List Row → EndpointOf → EndpointOf
ruled_by rows end = record end { contract = Some rows; state = (row_at rows 0).state }

-- an end without a contract
abbrev pub unruled : EndpointOf → EndpointOf
unruled end = record end { contract = None; state = 0 }
