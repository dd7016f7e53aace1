use Rattle.xh_session.proofs.Common.{Some, map, take, ◌≡◌}
use Rattle.xh_session.proofs.machine.serial.received.Given as goal

abbrev pub invariant-loop-block : goal.invariant-loop-block
invariant-loop-block l = l.blocks.items ≡ map (λ b. Some b) (take l.block-index l.block-items)
