use Rattle.xh_arena.proofs.Common.{nat_tests, ◌∙◌, arith}
use Rattle.xh_arena.proofs.Kept.{kept-lawful, kept-holes}
use Rattle.xh_arena.proofs.Room.{holes_by_records}
use Rattle.xh_arena.proofs.Steps.{kept-all_holes}
use Rattle.xh_arena.proofs.arena.Arena.holes.Goals as goal

pub returns-clause-value : goal.returns-clause-value
returns-clause-value c = rw (← c.self.view_is) (c.as_slice.ensures.value ∙ kept-holes _ _ _ _ c.self.invariant.kept)

pub returns-clause-all : goal.returns-clause-all
returns-clause-all c = rw (← c.self.view_is, c.as_slice.ensures.value) (kept-all_holes _ _ _ _ c.self.invariant.kept)

pub returns-clause-lawful : goal.returns-clause-lawful
returns-clause-lawful c = rw (← c.self.view_is) (kept-lawful _ _ _ _ c.self.invariant.kept _ _)

pub returns-clause-few : goal.returns-clause-few
returns-clause-few c = grind (arith, nat_tests, holes_by_records)
