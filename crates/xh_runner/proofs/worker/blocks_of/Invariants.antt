use Rattle.std.proofs.Common.{◌≡◌, map, take}
use Rattle.xh_runner.specs.Workers.{gotten}
use Rattle.xh_runner.proofs.worker.blocks_of.Given as goal

abbrev pub invariant-loop-block : goal.invariant-loop-block
invariant-loop-block l = l.all.items ≡ map gotten (take l.block-index l.blocks)
