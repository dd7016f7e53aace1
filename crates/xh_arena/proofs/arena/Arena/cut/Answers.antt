use Rattle.xh_arena.proofs.Common.{nat_tests, ◌<◌, set, refl, arith, boxed_slice_items, false≢true, cut_others}
use Rattle.std.proofs.lemmas.List.{length-set}
use Rattle.xh_arena.proofs.Kept.{kept-lawful}
use Rattle.xh_arena.proofs.Steps.{CutDone, cut_by, length_read}
use Rattle.xh_arena.proofs.arena.Arena.cut.Goals as goal
use Rattle.xh_arena.proofs.arena.Arena.cut.Goals.{then-k-eq0-via-then-k-eq0, then-k-eq0-via-else-k-eq0+then-k-ne0, then-k-eq0-via-else-k-eq0+else-k-ne0+then-k-length}

pub returns-then-k-eq0-clause-exact : goal.returns-then-k-eq0-clause-exact
returns-then-k-eq0-clause-exact c =
    let size = length_read _ _ _ _ _ _ c.self.invariant.kept c.self.view_is c.requires.known (rw c.from-head.ensures at c.index.ensures) in (
      λ f. absurd (false≢true f),
      λ g. elim c.then-k-eq0.branch [
        | then-k-eq0-via-then-k-eq0 w ↦ let some : 0 < c.args.k = g.0 in absurd (omega (arith, w.if-k-eq0.true))
        | then-k-eq0-via-else-k-eq0+then-k-ne0 w ↦ absurd (w.if-k-ne0.true g.1)
        | then-k-eq0-via-else-k-eq0+else-k-ne0+then-k-length w ↦ let fits : c.args.k < c.index.result.now.1 = rw size at g.2 in absurd (omega (arith, w.if-k-length.true))
      ],
    )

pub returns-then-k-eq0-clause-lawful : goal.returns-then-k-eq0-clause-lawful
returns-then-k-eq0-clause-lawful c = rw (← c.self.view_is) (kept-lawful _ _ _ _ c.self.invariant.kept _ _)

done : (c : goal.After-self-2-1) →
    CutDone c.self.inside.size (boxed_slice_items c.self.inside.extents) c.self.inside.holes.items c.self.inside.handed_out c.args.r c.args.t c.args.k c.index.result.now
done c = cut_by _ _ _ _ _ _ c.self.invariant.kept c.self.view_is c.requires.known (rw c.from-head.ensures at c.index.ensures) _ _ c.requires.tail_known c.requires.other c.requires.empty
    (omega arith) c.if-k-ne0.false c.if-k-length.false

pub invariant_of-self : goal.invariant_of-self
invariant_of-self c = grind (arith, nat_tests, done, length-set)

pub returns-clause-exact : goal.returns-clause-exact
returns-clause-exact c =
    let size = length_read _ _ _ _ _ _ c.self.invariant.kept c.self.view_is c.requires.known (rw c.from-head.ensures at c.index.ensures) in
    (λ f. (omega arith, c.if-k-ne0.false, rw size c.if-k-length.false), λ g. refl)

pub returns-clause-done : goal.returns-clause-done
returns-clause-done c = record {
  known = c.requires.known;
  tail_known = c.requires.tail_known;
  other = c.requires.other;
  empty = c.requires.empty;
  good = (returns-clause-exact c).0 refl;
  change = rw (
    c.from-head.ensures,
    c.from-tail.ensures,
    ← c.self.view_is,
    (done c).cover,
    length-set (set (boxed_slice_items c.self.inside.extents) c.args.r (c.index.result.now.0, c.args.k)),
    length-set (boxed_slice_items c.self.inside.extents),
  ) refl;
  runs = rw (c.from-head.ensures, c.from-tail.ensures, ← c.self.view_is) (done c).runs;
}

pub returns-clause-lawful : goal.returns-clause-lawful
returns-clause-lawful c = kept-lawful _ _ _ _ (invariant_of-self c).kept _ _

pub returns-clause-others : goal.returns-clause-others
returns-clause-others c = cut_others _ _ _ _ _ (returns-clause-done c)
