use Rattle.xh_place.proofs.Common.{arith, becomes, ap, ◌∙◌, ◌≡◌, ◌+◌, refl, sym, subst, true, block_small, gains, is_over, list_room, now_as, now_is, shown, shown_gain, total_bound}
use Rattle.xh_place.specs.declared.got.Got.TheVariants.{Here}
use Rattle.xh_place.specs.inner.Answers.{Comes}
use Rattle.xh_place.proofs.place.Place.accept.Goals as goal

pub push_reserved-requires : goal.push_reserved-requires
push_reserved-requires c = let t = c.in-Ok.ensures.here in list_room c.self.invariant t.3 t.1

pub overflow_add-self : goal.overflow_add-self
overflow_add-self c = let t = c.in-Ok.ensures.here in omega (arith, total_bound c.self.invariant, block_small t.3, ap (λ z. z.len) t.4, c.from.ensures)

pub invariant_of-self : goal.invariant_of-self
invariant_of-self c =
    let t = c.in-Ok.ensures.here in let alive = λ (e : is_over c.self.inside.state ≡ true). c.requires.alive (ap (λ p. is_over p.state) (sym c.self.view_is) ∙ e) in
    now_as (now_is c.self.inside.seat c.accept_block.new.seat t.2.0 (gains c.self.invariant t.3 t.1 alive)) c.push_reserved.ensures.items c.push_reserved.ensures.capacity
    (ap (λ n. c.self.inside.total + n) (c.from.ensures ∙ ap (λ z. z.len) t.4))

pub returns-in-Ok-clause-got : goal.returns-in-Ok-clause-got
returns-in-Ok-clause-got c =
    let t = c.in-Ok.ensures.here in let seat = c.self.inside.seat in let last = c.accept_block.new.seat in let state = c.self.inside.state in
    subst (λ z. Comes z (record { seat = last; list = c.push_reserved.new.self.items; state = state }) c.args.direction c.args.r
    (Here (record { rec = c.args.r; len = c.in-Ok.field-0.len }) c.in-Ok.field-0.kind)) c.self.view_is (
      refl,
      t.0,
      sym t.4,
      t.3,
      becomes seat last _ _ t.2 c.push_reserved.ensures.items refl,
      t.5,
      (λ i. shown (ap (λ h. h.lots) t.2.0 i) (c.push_reserved.ensures.items i)) ∙ shown_gain c.args.r t.0 seat.lots c.self.inside.list.items t.1 (λ a. t.1 (c.self.invariant.lists.held c.args.r a)),
    )
