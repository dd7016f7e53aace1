use Rattle.xh_history.specs.Histories.{PenOf, fresh_pen}
use Rattle.xh_kernel.proofs.Common.{Entry, IsHistoryOf, IsUnowned, rules, stays_itself, subst, sym, ◌≡◌}
use Rattle.xh_kernel.proofs.kernel.lock_place.Goals as goal

pub invariant_of-new-clause-history : goal.invariant_of-new-clause-history
invariant_of-new-clause-history g c =
    let parts = g.N.Names.parts in let place = c.in_ok-place.place in let k = c.args.seat.process in
    let unused : IsUnowned parts k place = search rules in let is : c.new-2.result.pen ≡ fresh_pen parts.histories k = search rules in
    subst (λ (p : PenOf Entry). IsHistoryOf parts p.number p.history place) (sym is) ∣ (place, unused, stays_itself place) ∣₁
