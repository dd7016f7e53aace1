use Rattle.xh_place.proofs.Common.{arith, value_at, [], ◌∷◌, ◌≡◌, Some, None, Option, ap, ◌∙◌, sym, subst, true, refl, ◌-◌, IsSeatOf, Acts, Becomes, LotOf, Body, becomes, enough, end_held, item_in}
use Rattle.xh_place.proofs.Common.{item_of, less, loses, now_as, now_is, passed_on, shown, there, without}
use Rattle.xh_place.proofs.place.Place.pass_end.Goals.{After-pass_block-len}
use Rattle.xh_place.proofs.place.Place.pass_end.Goals as goal

pub pass_block-len-requires : goal.pass_block-len-requires
pass_block-len-requires c =
    let seat = c.self.inside.seat in let q = end_held (value_at c.args.r c.args.self.now.seat.lots) c.requires.end in
    let own = subst (λ p. IsSeatOf c.args.records.now p.seat) (sym c.self.view_is) c.requires.own.0 in
    let t = there c.args.records.now seat seat refl own c.self.invariant.whole c.args.r (ap (λ p. value_at c.args.r p.seat.lots) c.self.view_is ∙ q.1) in
    record { own = (t.0.0, t.0.1, c.requires.own.1); held = (t.1.0, t.1.1, t.1.3) }

pub remove-requires : goal.remove-requires
remove-requires c = c.self.invariant.distinct

pub overflow_sub-self : goal.overflow_sub-self
overflow_sub-self c = omega (arith, c.from.ensures, c.pass_block-len.ensures.3, enough c.self.invariant c.args.r c.pass_block-len.ensures.1)

pub invariant_of-self : goal.invariant_of-self
invariant_of-self c = now_as (now_is c.self.inside.seat c.pass_block-len.new.seat c.pass_block-len.ensures.2.0 (loses c.self.invariant c.args.r c.pass_block-len.ensures.1))
    c.remove.ensures.items c.remove.ensures.room (ap (λ n. c.self.inside.total - n) (c.from.ensures ∙ c.pass_block-len.ensures.3))

pub returns : goal.returns
returns c =
    let seat = c.self.inside.seat in let last = c.pass_block-len.new.seat in let r = c.args.r in let t = c.pass_block-len.ensures in (
      t.0,
      sym (ap (λ p. value_at r p.seat.lots) c.self.view_is) ∙ t.1,
      subst (λ z. Becomes (without r z.seat.lots) (less r z.list) (passed_on z.seat.process c.args.direction ((r, item_of t.0) ∷ [])) z
          (record { seat = last; list = c.remove.new.list.items; state = c.self.inside.state })) c.self.view_is
          (becomes seat last _ _ t.2 c.remove.ensures.items refl),
    )
