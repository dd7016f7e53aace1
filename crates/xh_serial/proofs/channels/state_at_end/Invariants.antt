use Rattle.xh_serial.proofs.Common.{drained_state, drop, tags_of, ◌≡◌}
use Rattle.xh_serial.proofs.channels.state_at_end.Given as goal

-- what is left makes of the state now what all makes of the first
abbrev pub invariant-loop-message : goal.invariant-loop-message
invariant-loop-message l = drained_state l.contract l.side l.end (tags_of (drop l.message-index l.messages)) ≡ drained_state l.contract l.side l.state (tags_of l.messages)
