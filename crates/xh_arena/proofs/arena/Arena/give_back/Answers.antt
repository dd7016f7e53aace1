use Rattle.xh_arena.proofs.Common.{refl, boxed_slice_items, back_length, back_others}
use Rattle.std.proofs.lemmas.List.{length-set}
use Rattle.xh_arena.proofs.Kept.{kept-lawful}
use Rattle.xh_arena.proofs.Steps.{BackDone, back_by, holes_within, holes_rising}
use Rattle.xh_arena.proofs.Room.{holes_room}
use Rattle.xh_arena.proofs.arena.Arena.give_back.Goals as goal

done : (c : goal.After-add_hole) → BackDone c.self.inside.size (boxed_slice_items c.self.inside.extents) c.self.inside.holes.items c.self.inside.handed_out c.args.r c.index.result.now
done c = back_by _ _ _ _ _ _ c.self.invariant.kept c.self.view_is c.requires.known c.requires.held (rw c.from-index.ensures at c.index.ensures)

pub overflow_sub-self : goal.overflow_sub-self
overflow_sub-self c = (back_by _ _ _ _ _ _ c.self.invariant.kept c.self.view_is c.requires.known c.requires.held (rw c.from-index.ensures at c.index.ensures)).taken

pub add_hole-requires-clause-room : goal.add_hole-requires-clause-room
add_hole-requires-clause-room c = holes_room _ _ _ _ c.self.invariant.kept c.self.invariant.limits.most_records

pub add_hole-requires-clause-rising : goal.add_hole-requires-clause-rising
add_hole-requires-clause-rising c = holes_rising _ _ _ _ c.self.invariant.kept

pub add_hole-requires-clause-within : goal.add_hole-requires-clause-within
add_hole-requires-clause-within c = holes_within _ _ _ _ c.self.invariant.kept c.self.invariant.limits.most_bytes

pub invariant_of-self : goal.invariant_of-self
invariant_of-self c = rw (c.from-index.ensures, c.add_hole.ensures) (record {
  kept = (done c).kept;
  worn = c.self.invariant.worn;
  limits = rw length-set c.self.invariant.limits;
})

pub returns-clause-done : goal.returns-clause-done
returns-clause-done c = record {
  known = c.requires.known;
  held = c.requires.held;
  change = rw (c.from-index.ensures, ← c.self.view_is, (done c).cover, length-set (boxed_slice_items c.self.inside.extents)) refl;
}

pub returns-clause-lawful : goal.returns-clause-lawful
returns-clause-lawful c = kept-lawful _ _ _ _ (invariant_of-self c).kept _ _

pub returns-clause-empty : goal.returns-clause-empty
returns-clause-empty c = back_length _ _ _ (returns-clause-done c)

pub returns-clause-others : goal.returns-clause-others
returns-clause-others c = back_others _ _ _ (returns-clause-done c)
