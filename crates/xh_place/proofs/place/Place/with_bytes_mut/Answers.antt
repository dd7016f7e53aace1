use Rattle.xh_place.proofs.Common.{becomes, content_of, rules, [], ap, ◌∙◌, refl, sym, subst, Acts, Some, acts_none, acts_then, item_of, lent, now_is, on_err_weaker, option_map, put, tested_range}
use Rattle.xh_place.proofs.Common.{there, value_at, IsSeatOf}
use Rattle.xh_place.specs.Calls.{LendsMut, bytes_in}
use Rattle.xh_place.proofs.place.Place.with_bytes_mut.Goals as goal

pub lend_lot-requires : goal.lend_lot-requires
lend_lot-requires g c =
    let own : IsSeatOf c.args.records.now c.self.inside.seat = search rules in
    let t = there c.args.records.now c.self.inside.seat c.test_block.new.seat c.in_ok-test_block.ensures.same.0 own c.self.invariant.whole c.args.r c.in_ok-test_block.ensures.tested.1.1 in
    record { own = t.0; held = t.1; callable = c.requires.callable }

pub invariant_of-self-2 : goal.invariant_of-self-2
invariant_of-self-2 g c =
    let q = c.in_ok-test_block.ensures.tested.1 in let same = c.in_ok-test_block.ensures.same in let at = ap (λ h. value_at c.args.r h.lots) same.0 ∙ q.1 in
    (lent g.F.FnMut c.args.f.now c.lend_lot.new.f c.lend_lot.result c.test_block.new.seat c.lend_lot.new.seat c.args.r (now_is c.self.inside.seat c.test_block.new.seat same.0 c.self.invariant) at
    (c.lend_lot.ensures.lent q.0 at) (on_err_weaker c.lend_lot.result (λ e. e.0) c.lend_lot.ensures.refused)).0

pub returns : goal.returns
returns g c =
    let seat = c.self.inside.seat in let mid = c.test_block.new.seat in let last = c.lend_lot.new.seat in
    let q = c.in_ok-test_block.ensures.tested.1 in let same = c.in_ok-test_block.ensures.same in let at = ap (λ h. value_at c.args.r h.lots) same.0 ∙ q.1 in
    let tests = (lent g.F.FnMut c.args.f.now c.lend_lot.new.f c.lend_lot.result mid last c.args.r (now_is seat mid same.0 c.self.invariant) at (c.lend_lot.ensures.lent q.0 at)
    (on_err_weaker c.lend_lot.result (λ e. e.0) c.lend_lot.ensures.refused)).1 in
    subst (λ z. LendsMut g.F.FnMut z.state c.args.r c.args.f.now c.lend_lot.new.f z (record { seat = last; list = c.self.inside.list.items; state = c.self.inside.state }) c.lend_lot.result)
    c.self.view_is (record {
      lent = tested_range c.self.inside.state seat c.args.r 0 0 c.lend_lot.result c.in_ok-test_block.ensures.tested.0 q.1 tests
          (λ a h. (
            h.0,
            bytes_in (content_of h.1.body),
            h.1,
            ap (option_map item_of) q.1 ∙ ap (λ x. Some x) h.2,
            h.3,
            sym (ap (λ x. x.len) h.4)
                ∙ h.5,
            h.4,
            becomes seat last _ _ (acts_then (λ p. []) (put c.args.r h.1) seat mid last same (acts_none (put c.args.r h.1 mid.lots) mid last h.6)) refl refl,
          ));
      refused = on_err_weaker c.lend_lot.result (λ e. becomes seat last _ _ (subst (λ h. Acts [] seat.lots seat h) (sym e.0) same) refl refl) c.lend_lot.ensures.refused;
      uncalled = on_err_weaker c.lend_lot.result (λ e. e.1) c.lend_lot.ensures.refused;
    })
