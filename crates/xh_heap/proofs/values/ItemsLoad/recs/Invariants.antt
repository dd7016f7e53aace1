use Rattle.std.proofs.Common.{map, take, ◌≡◌}
use Rattle.xh_heap.specs.Values.{item_at}
use Rattle.xh_heap.proofs.values.ItemsLoad.recs.Given as goal

abbrev pub invariant-loop-item : goal.invariant-loop-item
invariant-loop-item l = l.recs.items ≡ map (item_at l.p) (take l.item-index l.self.items)
