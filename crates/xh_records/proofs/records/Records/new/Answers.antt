use Rattle.xh_records.proofs.Common.{nat_tests, ◌≡◌, ℕ, ◌/◌, ◌%◌, ◌<◌, ◌≤◌, arith, sym, ap, ◌∙◌, subst, mod-lt, Some, slice_get, MAX_RECORDS, number_of, arena_of_number, place_of_number}
use Rattle.xh_records.proofs.Elements.{elem_slice, slice_elem}
use Rattle.xh_records.proofs.records.Records.new.Goals as goal

pub table_of-requires-clause-empty : goal.table_of-requires-clause-empty
table_of-requires-clause-empty g c =
    let n : ℕ = c.args.records in
    λ k l at.
    let e = c.requires.empty k l (elem_slice c.args.lots.items k l at) in
    let below : k % n < n = mod-lt k c.requires.limits.0 in
    let most : n ≤ MAX_RECORDS = c.requires.limits.1 in
    let small : k % n < MAX_RECORDS = omega arith in (
      subst (λ z. (l.index ≡ number_of z k % MAX_RECORDS) × (slice_get c.args.names (number_of z k / MAX_RECORDS) ≡ Some l.id)) (sym c.from.ensures)
          (e.0 ∙ sym (place_of_number n k small), ap (slice_get c.args.names) (arena_of_number n k small) ∙ e.1),
      e.2,
    )

pub returns-clause-seats : goal.returns-clause-seats
returns-clause-seats g c = grind (arith, nat_tests, slice_elem)
