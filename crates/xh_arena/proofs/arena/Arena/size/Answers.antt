use Rattle.xh_arena.proofs.Common.{sym, boxed_slice_items, length-map-range_with_len, owner_of}
use Rattle.xh_arena.proofs.arena.Arena.size.Goals as goal

pub returns-clause-size : goal.returns-clause-size
returns-clause-size c = rw (← c.self.view_is) (sym (length-map-range_with_len (owner_of (boxed_slice_items c.self.inside.extents)) 0 c.self.inside.size))
