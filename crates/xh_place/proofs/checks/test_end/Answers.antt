use Rattle.xh_place.proofs.Common.{rules, ◌≡◌, true, sym, ap, ◌∙◌, value_at, some_of, there}
use Rattle.xh_place.proofs.checks.test_end.Goals as goal

pub spot_at-requires : goal.spot_at-requires
spot_at-requires c =
    let is : c.holds.result ≡ true = search rules in
    let t = there c.args.records.now c.args.seat.now c.holds.new.seat c.holds.ensures.same.0 c.requires.own c.requires.whole c.args.e
    (some_of (value_at c.args.e c.args.seat.now.lots) (sym c.holds.ensures.holds ∙ is)).1 in
    record { own = t.0; held = t.1 }
