use Rattle.std.proofs.Common.{◌∙◌, true, ap, refl, rules, sym}
use Rattle.xh_records.proofs.OneVault.{of_one_vault}
use Rattle.xh_records_tests.proofs.records.make_bench.Goals as goal

pub new-requires-2-clause-empty : goal.new-requires-2-clause-empty
new-requires-2-clause-empty c = of_one_vault _ (λ b n. true) _ c.args.count _ c.in-Ok.lots.items (λ b new. refl) (search rules) c.in-Ok.ensures.lots

pub invariant_of-result : goal.invariant_of-result
invariant_of-result c =
    let seats = c.in-Ok-new.ensures.seats in
    let first = seats.1 0 c.first_two-first.result.0 c.first_two-first.ensures.0 in
    let second = seats.1 1 c.first_two-first.result.1 c.first_two-first.ensures.1 in
    let tally = c.in-Ok.ensures.tallies.1 0 c.first_of-tally.result c.first_of-tally.ensures in record {
      new = ((first.0, second.0), (first.2, second.2), (first.1, second.1), search rules, ap (λ t. t.id) tally ∙ ap (λ v. v.id) (sym c.name.ensures.same));
      places = ap (λ s. s.places) c.in-Ok-new.ensures.shape;
    }
