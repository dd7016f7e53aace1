use Rattle.xh_place.proofs.Common.{arith, ◌≡◌, ◌∙◌, sym, ap, subst, true, is_some, value_at, AreWhole, Held, Body, acts_again}
use Rattle.std.proofs.lemmas.Grind.{common_steps}
use Rattle.xh_place.proofs.checks.holds_all.Goals as goal

pub holds-requires-clause-whole : goal.holds-requires-clause-whole
holds-requires-clause-whole c = subst (λ (h : Held Body). AreWhole h.shape h.lots) (sym c.loop-r.invariant.0.0) c.requires.whole

pub returns-then-not-holds-clause-same : goal.returns-then-not-holds-clause-same
returns-then-not-holds-clause-same c = acts_again c.args.seat.now c.loop-r.seat c.holds.new.seat c.loop-r.invariant.0 c.holds.ensures.same

pub loop-r-preserved : goal.loop-r-preserved
loop-r-preserved c =
    let lots = ap (λ (h : Held Body). h.lots) c.loop-r.invariant.0.0 in
    (acts_again c.args.seat.now c.loop-r.seat c.holds.new.seat c.loop-r.invariant.0 c.holds.ensures.same, grind (arith, common_steps, lots))
