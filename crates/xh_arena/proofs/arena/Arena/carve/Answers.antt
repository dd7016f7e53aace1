use Rattle.xh_arena.proofs.Common.{nat_tests, ◌<◌, ◌+◌, ◌-◌, ◌≤◌, sym, ◌∙◌, arith, rules, refl, ap, boxed_slice_items, Err, slice_index_or, carved_length, carved_others}
use Rattle.std.proofs.lemmas.List.{length-set}
use Rattle.xh_arena.proofs.Kept.{kept-lawful}
use Rattle.xh_arena.proofs.Steps.{Carved, carved_by, no_space, holes_within}
use Rattle.xh_arena.proofs.Refusing.{not_refused, only_no_space, only_worn}
use Rattle.xh_arena.proofs.arena.Arena.carve.Goals.{In-Some}
use Rattle.xh_arena.proofs.arena.Arena.carve.Goals as goal

carved : (c : In-Some) → Carved c.self.inside.size (boxed_slice_items c.self.inside.extents) c.self.inside.holes.items c.self.inside.handed_out c.args.r c.args.n c.in-Some.at
carved c = carved_by _ _ _ _ c.self.invariant.kept _ _ _ c.self.view_is c.requires.known c.requires.empty c.requires.some c.requires.multiple
    (rw (← c.deref.ensures.0) (sym c.first_hole.ensures ∙ c.in-Some.is))

pub take_front-start-requires-clause-fits : goal.take_front-start-requires-clause-fits
take_front-start-requires-clause-fits c = (carved (goal.at.take_front-start-requires-clause-fits c).In-Some).fits

pub overflow_add-self : goal.overflow_add-self
overflow_add-self c = let room = (carved (goal.at.overflow_add-self c).In-Some).room in search rules

pub take_front-start-requires-clause-within : goal.take_front-start-requires-clause-within
take_front-start-requires-clause-within c = holes_within _ _ _ _ c.self.invariant.kept c.self.invariant.limits.most_bytes

pub invariant_of-self : goal.invariant_of-self
invariant_of-self c =
    let done = carved (goal.at.invariant_of-self c).In-Some in
    let room : c.self.inside.handed_out + c.args.n ≤ c.self.inside.size = done.room in
    rw (c.take_front-start.ensures.start, c.take_front-start.ensures.items, c.from-2.ensures, c.from-3.ensures) (record {
      kept = done.kept;
      worn = omega arith;
      limits = rw length-set c.self.invariant.limits;
    })

pub returns-in_default-clause-refused : goal.returns-in_default-clause-refused
returns-in_default-clause-refused c =
    (rw (← c.self.view_is) (no_space _ _ _ _ c.self.invariant.kept c.args.n c.requires.some (rw (← c.deref.ensures.0) (sym c.first_hole.ensures ∙ c.in_default.is))), refl)

pub returns-in_default-clause-exact : goal.returns-in_default-clause-exact
returns-in_default-clause-exact c = λ e no. ap (λ x. Err x) (only_no_space _ _ (returns-in_default-clause-refused c).0.none e no)

pub returns-in_default-clause-lawful : goal.returns-in_default-clause-lawful
returns-in_default-clause-lawful c = rw (← c.self.view_is) (kept-lawful _ _ _ _ c.self.invariant.kept _ _)

pub returns-then-self-from-clause-refused : goal.returns-then-self-from-clause-refused
returns-then-self-from-clause-refused c =
    let more : c.self.inside.limit - c.self.inside.wear < c.args.n = rw c.from.ensures at c.if-self-from.true in
    (rw (← c.self.view_is) (record { some = rw (carved (goal.at.returns-then-self-from-clause-refused c).In-Some).place refl; past = omega arith }), refl)

pub returns-then-self-from-clause-exact : goal.returns-then-self-from-clause-exact
returns-then-self-from-clause-exact c = λ e no. ap (λ x. Err x) (only_worn c.args.n (slice_index_or c.self.inside.holes.items c.in-Some.at (0, 0)).0 c.args.self.now
    (rw (← c.self.view_is) (carved (goal.at.returns-then-self-from-clause-exact c).In-Some).place) e no)

pub returns-then-self-from-clause-lawful : goal.returns-then-self-from-clause-lawful
returns-then-self-from-clause-lawful c = rw (← c.self.view_is) (kept-lawful _ _ _ _ c.self.invariant.kept _ _)

pub returns-clause-done : goal.returns-clause-done
returns-clause-done c = let done = carved (goal.at.returns-clause-done c).In-Some in record {
  known = c.requires.known;
  empty = c.requires.empty;
  some = c.requires.some;
  first = rw (c.take_front-start.ensures.start, ← c.self.view_is) done.place;
  least = rw (c.take_front-start.ensures.start, ← c.self.view_is) done.least;
  change = rw (c.take_front-start.ensures.start, c.from-2.ensures, c.from-3.ensures, ← c.self.view_is, done.cover, length-set (boxed_slice_items c.self.inside.extents)) refl;
  run = rw (c.take_front-start.ensures.start, c.from-2.ensures) done.run;
  within_limit = (invariant_of-self c).worn;
}

pub returns-clause-exact : goal.returns-clause-exact
returns-clause-exact c = grind (arith, nat_tests, not_refused, returns-clause-done)

pub returns-clause-lawful : goal.returns-clause-lawful
returns-clause-lawful c = kept-lawful _ _ _ _ (invariant_of-self c).kept _ _

pub returns-clause-length : goal.returns-clause-length
returns-clause-length c = carved_length _ _ _ _ _ (returns-clause-done c)

pub returns-clause-others : goal.returns-clause-others
returns-clause-others c = carved_others _ _ _ _ _ (returns-clause-done c)
