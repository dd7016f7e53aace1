use Rattle.std.proofs.Common.{map, take, ◌≡◌}
use Rattle.xh_heap.specs.Values.{item_of}
use Rattle.xh_heap.proofs.values.Message.of.Given as goal

abbrev pub invariant-loop-got : goal.invariant-loop-got
invariant-loop-got l = l.items.items ≡ map (item_of l.p) (take l.got-index l.fn.taken.blocks.items)
