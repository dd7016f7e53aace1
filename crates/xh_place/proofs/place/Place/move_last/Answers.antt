use Rattle.xh_place.proofs.Common.{rules, arith, ◌≡◌, ◌<◌, [], ◌∷◌, ◌++◌, length, ap, refl, PlaceSeen, less, ◌∙◌, subst, value_at, count_room, less_long, listed_at, moves, now_as}
use Rattle.xh_place.proofs.place.Place.move_last.Goals as goal

pub remove-requires : goal.remove-requires
remove-requires c = c.self.invariant.distinct

pub push_reserved-requires : goal.push_reserved-requires
push_reserved-requires c =
    let at = ap (λ p. value_at c.args.r p.seat.lots) c.self.view_is ∙ c.requires.1 in
    let fits : length c.remove.new.list.items < c.remove.new.list.capacity =
    omega (
      arith,
      ap length c.remove.ensures.items,
      less_long c.args.r c.self.inside.list.items c.self.invariant.distinct (listed_at c.self.invariant c.args.r at),
      count_room c.self.invariant,
      c.remove.ensures.room,
    ) in search rules

pub invariant_of-self : goal.invariant_of-self
invariant_of-self c = now_as (moves c.self.invariant c.args.r (ap (λ p. value_at c.args.r p.seat.lots) c.self.view_is ∙ c.requires.1))
    (c.push_reserved.ensures.items ∙ ap (λ l. l ++ c.args.r ∷ []) c.remove.ensures.items) (c.push_reserved.ensures.capacity ∙ c.remove.ensures.room) refl

pub returns : goal.returns
returns c =
    let last : PlaceSeen = record { seat = c.self.inside.seat; list = c.push_reserved.new.self.items; state = c.self.inside.state } in
    subst (λ (p : PlaceSeen). last ≡ record p { list = less c.args.r p.list ++ c.args.r ∷ [] }) c.self.view_is
    (λ i. record { seat = c.self.inside.seat; list = (c.push_reserved.ensures.items ∙ ap (λ l. l ++ c.args.r ∷ []) c.remove.ensures.items) i; state = c.self.inside.state })
