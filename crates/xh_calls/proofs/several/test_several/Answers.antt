use Rattle.xh_calls.proofs.Common.{Twice, [], each_end, first_append, found, rules, ◌∷◌}
use Rattle.xh_core.specs.Several.{has_twice}
use Rattle.xh_calls.proofs.Common.{Err, Some, first_refusal, several_tests, ◌≡◌}
use Rattle.xh_calls.proofs.several.test_several.Goals as goal

pub returns-in_err-test_each-clause-tested : goal.returns-in_err-test_each-clause-tested
returns-in_err-test_each-clause-tested c =
    let e = c.in_err-test_each.field-0.0 in let ends = c.args.ends.now in
    let refuses = first_append (each_end (found c.args.place.now.seat) ends) ((has_twice ends, Twice) ∷ []) e c.in_err-test_each.ensures.tested in
    let is : c.from_residual-in_err-test_each.result ≡ Err e = search rules in
    let first : first_refusal (several_tests c.args.p c.args.place.now ends) ≡ Some e = search (rules, refuses) in rw is first
