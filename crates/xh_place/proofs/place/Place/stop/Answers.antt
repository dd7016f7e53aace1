use Rattle.xh_place.proofs.Common.{rules, arith, ◌≡◌, ℕ, ap, sym, ◌∙◌, subst, None, Some, stop, first_refusal, length, shown, Becomes, IsSeen, IsSwept, refl, stays_itself, becomes_state}
use Rattle.xh_place.proofs.Common.{ending_again, reclaimed}
use Rattle.xh_place.proofs.Common.{Sweeps, unrefused}
use Rattle.xh_place.proofs.Swept.{still, swept_all}
use Rattle.xh_core.specs.declared.status.Status.TheVariants.{Ended, Ending}
use Rattle.xh_place.specs.Places.{PlaceSeen}
use Rattle.xh_place.proofs.place.Place.stop.Goals as goal

pub returns-clause-stopped : goal.returns-clause-stopped
returns-clause-stopped g c =
    let old = c.args.self.now in let swept = c.sweep-bytes.new.self in let new = c.set_state-2.new.self in let bytes : ℕ = c.sweep-bytes.result.0 in let n : ℕ = c.sweep-bytes.result.1 in
    let passed : first_refusal (stop old.state) ≡ None = search rules in let b = c.args.budget in
    let begun = c.set_state.ensures.state in let t = c.sweep-bytes.ensures.swept in let log = t.0 in
    let all : n ≡ length swept.list = omega (arith, c.sweep-bytes.ensures.left) in
    let last : new ≡ record swept { state = ending_again Ended (length swept.list) } =
    c.set_state-2.ensures.state ∙ ap (λ s. record swept { state = s }) (c.ending.ensures ∙ ap (ending_again Ended) all) in
    let is = subst (λ (p : PlaceSeen). IsSwept (IsSeen p.seat swept.seat) p.seat.process 0 b (shown p.seat.lots p.list) (shown swept.seat.lots swept.list) bytes log) begun t.1 in
    let list = subst (λ (p : PlaceSeen). Becomes swept.seat.lots swept.list log p swept) begun t.2 in (
      bytes,
      unrefused (stop old.state) c.reclaimed.result _ _ passed (
        log,
        subst (λ (p : PlaceSeen). Sweeps (IsSeen old.seat p.seat) old.seat.process b (shown old.seat.lots old.list) (shown p.seat.lots p.list) bytes log) (sym last)
            (swept_all (IsSeen old.seat swept.seat) old.seat.process b bytes log (shown old.seat.lots old.list) (shown swept.seat.lots swept.list) is),
        subst (λ (p : PlaceSeen). Becomes p.seat.lots p.list log (record old { state = ending_again Ended (length p.list) }) p) (sym last)
            (becomes_state _ _ _ (record old { state = Ending }) swept (ending_again Ended (length swept.list)) list),
        c.reclaimed.ensures ∙ ap (reclaimed bytes) (all ∙ sym (ap (λ (p : PlaceSeen). length p.list) last)),
      ),
      c.sweep-bytes.ensures.back,
    )

pub returns-in_err-check_stop-clause-stopped : goal.returns-in_err-check_stop-clause-stopped
returns-in_err-check_stop-clause-stopped g c =
    let first : first_refusal (stop c.args.self.now.state) ≡ Some c.in_err-check_stop.field-0.0 = search rules in
    (0, rw first (search rules, (stays_itself c.args.self.now, refl)), still g.V.Vaults.changes g.V.Vaults.tallies c.args.desk.now.vaults c.args.desk.now.vaults refl)
