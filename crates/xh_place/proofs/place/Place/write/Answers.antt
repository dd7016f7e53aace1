use Rattle.xh_place.proofs.Common.{becomes, rules, [], ap, ◌∙◌, refl, sym, subst, Acts, acts_none, acts_then, length, now_is, on_err_weaker, overwritten, put, tested_range, there, value_at, IsSeatOf}
use Rattle.xh_place.specs.Calls.{Writes}
use Rattle.xh_place.proofs.place.Place.write.Goals as goal

pub write_lot-requires : goal.write_lot-requires
write_lot-requires c =
    let own : IsSeatOf c.args.records.now c.self.inside.seat = search rules in
    let t = there c.args.records.now c.self.inside.seat c.test_block.new.seat c.in_ok-test_block.ensures.same.0 own c.self.invariant.whole c.args.r c.in_ok-test_block.ensures.tested.1.1 in
    record { own = t.0; held = t.1 }

pub invariant_of-self-2 : goal.invariant_of-self-2
invariant_of-self-2 c =
    let q = c.in_ok-test_block.ensures.tested.1 in let same = c.in_ok-test_block.ensures.same in let at = ap (λ h. value_at c.args.r h.lots) same.0 ∙ q.1 in
    (overwritten c.args.at c.args.bytes.now c.write_lot.result c.test_block.new.seat c.write_lot.new.seat c.args.r (now_is c.self.inside.seat c.test_block.new.seat same.0 c.self.invariant) at
    (c.write_lot.ensures.written q.0 at) c.write_lot.ensures.refused).0

pub returns : goal.returns
returns c =
    let seat = c.self.inside.seat in let mid = c.test_block.new.seat in let last = c.write_lot.new.seat in
    let q = c.in_ok-test_block.ensures.tested.1 in let same = c.in_ok-test_block.ensures.same in let at = ap (λ h. value_at c.args.r h.lots) same.0 ∙ q.1 in
    let tests = (overwritten c.args.at c.args.bytes.now c.write_lot.result mid last c.args.r (now_is seat mid same.0 c.self.invariant) at (c.write_lot.ensures.written q.0 at)
    c.write_lot.ensures.refused).1 in
    subst (λ z. Writes z.state c.args.r c.args.at c.args.bytes.now z (record { seat = last; list = c.self.inside.list.items; state = c.self.inside.state }) c.write_lot.result) c.self.view_is (record {
      written = tested_range c.self.inside.state seat c.args.r c.args.at (length c.args.bytes.now) c.write_lot.result c.in_ok-test_block.ensures.tested.0 q.1 tests
          (λ _ h. (q.0, h.0, q.1, h.1, becomes seat last _ _ (acts_then (λ p. []) (put c.args.r h.0) seat mid last same (acts_none (put c.args.r h.0 mid.lots) mid last h.2)) refl refl));
      refused = on_err_weaker c.write_lot.result (λ e. becomes seat last _ _ (subst (λ h. Acts [] seat.lots seat h) (sym e) same) refl refl) c.write_lot.ensures.refused;
    })
