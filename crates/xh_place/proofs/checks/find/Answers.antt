use Rattle.xh_place.proofs.Common.{rules, ◌≡◌, ◌∙◌, sym, true, value_at, some_of, there}
use Rattle.xh_place.proofs.checks.find.Goals as goal

pub look-requires : goal.look-requires
look-requires c =
    let is : c.holds.result ≡ true = search rules in
    let t = there c.args.records.now c.args.seat.now c.holds.new.seat c.holds.ensures.same.0 c.requires.own c.requires.whole c.args.r
    (some_of (value_at c.args.r c.args.seat.now.lots) (sym c.holds.ensures.holds ∙ is)).1 in
    record { own = t.0; held = t.1 }
