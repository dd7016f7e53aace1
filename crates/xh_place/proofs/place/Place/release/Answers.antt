use Rattle.xh_place.proofs.Common.{becomes, [], ap, ◌∙◌, ◌/◌, ◌<◌, length, refl, sym, subst, Some, IsBlock, LotOf, Ok, acts_then, header_of, item_of, option_map, vacated, value_at, without}
use Rattle.xh_core.specs.Headers.{len_in}
use Rattle.xh_place.specs.Calls.{FreesBlock}
use Rattle.xh_place.proofs.place.Place.release.Goals as goal

pub returns-clause-freed : goal.returns-clause-freed
returns-clause-freed g c =
    let q = c.in_ok-test_data.ensures.tested.1 in let same = c.in_ok-test_data.ensures.same in let gone = c.give_up.ensures.list in let r = c.args.r in
    let at = ap (λ h. value_at r h.lots) same.0 ∙ q.1 in
    subst (λ z. FreesBlock z.state r z c.give_up.new.self (Ok c.give_up.result)) c.self.view_is (record {
      freed = (
        c.in_ok-test_data.ensures.tested.0,
        (
          (c.give_up.ensures.block q.0 at).1 ∙ sym (ap (λ o. len_in (option_map header_of (option_map item_of o))) q.1),
          becomes c.self.inside.seat c.give_up.new.self.seat _ _
              (acts_then (λ p. vacated p r) (without r) c.self.inside.seat c.test_data.new.seat c.give_up.new.self.seat same (ap (λ p. p.seat) gone.0, gone.1)) (ap (λ p. p.list) gone.0)
              (ap (λ p. p.state) gone.0),
        ),
      );
      refused = tt;
    })

pub returns-clause-arena : goal.returns-clause-arena
returns-clause-arena g c = let q = c.in_ok-test_data.ensures.tested.1 in
    subst (λ z. c.args.r / 256 < length z.seat.shape.names) c.self.view_is (c.self.invariant.whole c.args.r q.0 q.1).exists.0

pub returns-clause-body : goal.returns-clause-body
returns-clause-body g c =
    let q = c.in_ok-test_data.ensures.tested.1 in let at = ap (λ h. value_at c.args.r h.lots) c.in_ok-test_data.ensures.same.0 ∙ q.1 in let b = c.give_up.ensures.block q.0 at in
    (q.0, sym (ap (λ z. value_at c.args.r z.seat.lots) c.self.view_is) ∙ q.1, subst (λ z. IsBlock z.seat.shape c.args.r q.0) c.self.view_is (c.self.invariant.whole c.args.r q.0 q.1), q.3, b.1, b.2)
