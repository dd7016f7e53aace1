use Rattle.xh_serial.proofs.Common.{described, take, ◌≡◌}
use Rattle.xh_serial.proofs.several.describe.Given as goal

abbrev pub invariant-loop-r : goal.invariant-loop-r
invariant-loop-r l = l.list.items ≡ described l.plain (take l.r-index l.blocks.items)
