use Rattle.xh_place.proofs.Common.{becomes, rules, [], length, ap, arith, ◌∙◌, refl, sym, subst, ◌≡◌, ◌++◌, Acts, Body, LotOf, Some, content_of, bytes_part, found, start, tested_range, there}
use Rattle.xh_place.proofs.Common.{value_at, IsSeatOf}
use Rattle.xh_core.specs.Calls.{range_tests}
use Rattle.xh_core.specs.Refusing.{Tested}
use Rattle.xh_place.specs.Calls.{Reads}
use Rattle.xh_place.proofs.place.Place.read.Goals as goal

pub read_lot-requires : goal.read_lot-requires
read_lot-requires c =
    let own : IsSeatOf c.args.records.now c.self.inside.seat = search rules in
    let t = there c.args.records.now c.self.inside.seat c.test_block.new.seat c.in_ok-test_block.ensures.same.0 own c.self.invariant.whole c.args.r c.in_ok-test_block.ensures.tested.1.1 in
    record { own = t.0; held = t.1 }

pub returns-clause-read : goal.returns-clause-read
returns-clause-read c =
    let seat = c.self.inside.seat in let q = c.in_ok-test_block.ensures.tested.1 in let same = c.in_ok-test_block.ensures.same in
    let long : length c.read_lot.new.out ≡ length c.args.out.now = omega arith in
    let tests = tested_range c.self.inside.state seat c.args.r c.args.at (length c.args.out.now) c.read_lot.result c.in_ok-test_block.ensures.tested.0 q.1
    (c.read_lot.ensures.read q.0 (ap (λ h. value_at c.args.r h.lots) same.0 ∙ q.1)) (λ _ is. (q.0, q.1, is.1)) in
    subst (λ z. Reads z.state c.args.r c.args.at c.read_lot.new.out z (record { seat = c.read_lot.new.seat; list = c.self.inside.list.items; state = c.self.inside.state }) c.read_lot.result)
    c.self.view_is (record {
      same = becomes seat c.read_lot.new.seat _ _ (subst (λ h. Acts [] seat.lots seat h) (sym c.read_lot.ensures.same) same) refl refl;
      read = subst (λ n. Tested (start c.self.inside.state ++ range_tests (found seat c.args.r) c.args.at n) c.read_lot.result
          (λ _. (l : LotOf Body) × (value_at c.args.r seat.lots ≡ Some l) × (c.read_lot.new.out ≡ bytes_part c.args.at n (content_of l.body)))) (sym long) tests;
    })
