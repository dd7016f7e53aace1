use Rattle.xh_arena.proofs.Common.{arith, nat_tests, ◌<◌, ℕ, length, refl, ap, sym, ◌∙◌, boxed_slice_items, get_or_read, eq-eqb, ne_eqb}
use Rattle.xh_arena.proofs.Kept.{read-run_of, kept-length_of}
use Rattle.xh_arena.proofs.arena.Arena.extent.Goals as goal

pub returns-then-extent-eq0-clause-is : goal.returns-then-extent-eq0-clause-is
returns-then-extent-eq0-clause-is c =
    let l : c.args.r < length (boxed_slice_items c.self.inside.extents) = rw (← c.self.view_is) at c.requires in
    let read = rw c.from.ensures at c.index-extent.ensures in
    rw (← c.self.view_is, read-run_of _ _ _ _ c.self.invariant.kept _ _ l read, eq-eqb _ _ c.if-extent-eq0.true) refl

pub returns-else-extent-eq0-clause-is : goal.returns-else-extent-eq0-clause-is
returns-else-extent-eq0-clause-is c =
    let l : c.args.r < length (boxed_slice_items c.self.inside.extents) = rw (← c.self.view_is) at c.requires in
    let read = rw c.from.ensures at c.index-extent.ensures in
    rw (← c.self.view_is, read-run_of _ _ _ _ c.self.invariant.kept _ _ l read, ne_eqb _ _ c.if-extent-eq0.false) refl

pub returns-then-extent-eq0-clause-length : goal.returns-then-extent-eq0-clause-length
returns-then-extent-eq0-clause-length c = grind (arith, nat_tests, get_or_read, kept-length_of)

pub returns-else-extent-eq0-clause-length : goal.returns-else-extent-eq0-clause-length
returns-else-extent-eq0-clause-length c =
    let l : c.args.r < length (boxed_slice_items c.self.inside.extents) = rw (← c.self.view_is) at c.requires in
    let e = get_or_read (boxed_slice_items c.self.inside.extents) c.args.r c.index-extent.result.now l (rw c.from.ensures at c.index-extent.ensures) (0, 0) in
    rw (← c.self.view_is) (kept-length_of _ _ _ _ c.self.invariant.kept c.args.r ∙ sym (ap (λ (run : ℕ × ℕ). run.1) e))
