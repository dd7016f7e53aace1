use Rattle.xh_place.proofs.Common.{rules, ◌≡◌, true, refl, sym, subst, ap, ◌∙◌, [], Acts, IsSeatOf, Stays, becomes, value_at, some_of, there}
use Rattle.xh_place.proofs.place.Place.spot.Goals as goal

pub spot_at-requires : goal.spot_at-requires
spot_at-requires c =
    let is : c.holds.result ≡ true = search rules in let seat = c.self.inside.seat in let own : IsSeatOf c.args.records.now seat = search rules in
    let t = there c.args.records.now seat c.holds.new.seat c.holds.ensures.same.0 own c.self.invariant.whole c.args.r (some_of (value_at c.args.r seat.lots) (sym c.holds.ensures.holds ∙ is)).1 in
    record { own = t.0; held = t.1 }

pub returns-clause-same : goal.returns-clause-same
returns-clause-same c =
    let seat = c.self.inside.seat in let last = c.spot_at.new.seat in
    subst (λ z. Stays z (record { seat = last; list = c.self.inside.list.items; state = c.self.inside.state })) c.self.view_is
    (becomes seat last _ _ (subst (Acts [] seat.lots seat) (sym c.spot_at.ensures.same) c.holds.ensures.same) refl refl)
