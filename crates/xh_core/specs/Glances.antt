-- What a ledger says of a place that was looked at.
use Rattle.xh_model.specs.Words.{place_of}
use Rattle.xh_core.specs.declared.glance.Glance.{Glance}
use Rattle.xh_core.specs.declared.ledger.PlaceLine.{PlaceLine}
use Rattle.xh_core.specs.declared.ledger.State.{State}
use Rattle.xh_core.specs.declared.ledger.State.TheVariants as state
use Rattle.xh_core.specs.declared.status.Status.{Status}
use Rattle.xh_core.specs.declared.status.Status.TheVariants.{Vacant, Running, Ending, Ended}

abbrev pub line_state : Status → State
line_state Vacant = state.Running
line_state Running = state.Running
line_state Ending = state.Ending
line_state Ended = state.Ended

abbrev pub line_of : Glance → PlaceLine
line_of glance = record {
  place = place_of glance.process;
  process = glance.process;
  state = line_state glance.state;
  blocks = glance.blocks;
  bytes = glance.bytes;
}
