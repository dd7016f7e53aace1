use Rattle.xh_calls.proofs.Common.{AreReady, None, PlaceSeen, [], did_starts, first_refusal, rules, several_tests, stays_itself, subst, sym, ◌≡◌}
use Rattle.xh_calls.proofs.heap.Heap.take_any.Goals as goal

pub returns-clause-taken : goal.returns-clause-taken
returns-clause-taken g c =
    let from = c.test_several.new.place in let same = c.in_ok-test_several.ensures.same in let tested = c.in_ok-test_several.ensures.tested.0 in
    let none = subst (λ (z : PlaceSeen). first_refusal (several_tests c.args.p z c.args.ends.now) ≡ None) (sym same.0) tested in
    (from, same, c.take_first.ensures.same.3, rw none c.take_first.ensures.taken)

pub returns-in_err-test_several-clause-taken : goal.returns-in_err-test_several-clause-taken
returns-in_err-test_several-clause-taken g c =
    let old = c.args.place.now in let refused = c.in_err-test_several.ensures in
    (old, stays_itself old, did_starts old.seat.process [] old.seat.front c.test_several.new.place.seat.front refused.same.1, rw refused.tested (search rules, refused.same))

pub take_first-requires-clause-ready : goal.take_first-requires-clause-ready
take_first-requires-clause-ready g c =
    let seen = c.in_ok-test_several.ensures in subst (λ (z : PlaceSeen). AreReady c.args.p z c.args.ends.now) (sym seen.same.0) seen.tested.1
