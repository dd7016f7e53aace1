use Rattle.xh_calls.proofs.Common.{AreEnds, PlaceSeen, each_end, found, rules, subst}
use Rattle.xh_core.specs.Refusing.{Tested}
use Rattle.xh_place.proofs.Deeds.{stays_again}
use Rattle.xh_calls.proofs.several.+test_each.Goals as goal

pub returns-clause-same : goal.returns-clause-same
returns-clause-same t c = stays_again c.args.place.now c.header.new.self c.test_each.new.place c.in-Some-header.ensures.same c.test_each.ensures.same

pub returns-clause-tested : goal.returns-clause-tested
returns-clause-tested t c =
    let place = c.args.place.now in let rest = c.in-Some.rest.now in
    let tested : Tested (each_end (found place.seat) rest) c.test_each.result (λ _. AreEnds (found place.seat) rest) =
    subst (λ (z : PlaceSeen). Tested (each_end (found z.seat) rest) c.test_each.result (λ _. AreEnds (found z.seat) rest)) c.in-Some-header.ensures.same.0 c.test_each.ensures.tested in
    search (rules, tested) depth 24 fits 20000
