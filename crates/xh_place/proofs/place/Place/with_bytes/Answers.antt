use Rattle.xh_place.proofs.Common.{becomes, rules, [], ap, ◌∙◌, refl, sym, subst, Acts, Some, item_of, option_map, tested_range, there, value_at, IsSeatOf}
use Rattle.xh_place.specs.Calls.{Lends}
use Rattle.xh_place.proofs.place.Place.with_bytes.Goals as goal

pub show_lot-requires : goal.show_lot-requires
show_lot-requires g c =
    let own : IsSeatOf c.args.records.now c.self.inside.seat = search rules in
    let t = there c.args.records.now c.self.inside.seat c.test_block.new.seat c.in_ok-test_block.ensures.same.0 own c.self.invariant.whole c.args.r c.in_ok-test_block.ensures.tested.1.1 in
    record { own = t.0; held = t.1; callable = c.requires.callable }

pub returns : goal.returns
returns g c =
    let seat = c.self.inside.seat in let q = c.in_ok-test_block.ensures.tested.1 in let same = c.in_ok-test_block.ensures.same in
    subst (λ z. Lends g.F.FnMut z.state c.args.r c.args.f.now c.show_lot.new.f z (record { seat = c.show_lot.new.seat; list = c.self.inside.list.items; state = c.self.inside.state })
    c.show_lot.result)
    c.self.view_is (record {
      same = becomes seat c.show_lot.new.seat _ _ (subst (λ h. Acts [] seat.lots seat h) (sym c.show_lot.ensures.same) same) refl refl;
      lent = tested_range c.self.inside.state seat c.args.r 0 0 c.show_lot.result c.in_ok-test_block.ensures.tested.0 q.1
          (c.show_lot.ensures.shown q.0 (ap (λ h. value_at c.args.r h.lots) same.0 ∙ q.1)) (λ a is. (_, ap (option_map item_of) q.1 ∙ ap (λ x. Some x) is.0, is.1));
      uncalled = c.show_lot.ensures.refused;
    })
