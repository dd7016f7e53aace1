use Rattle.xh_place.proofs.Common.{◌≡◌, ⊎_elim, inl, inr, ℕ, [], ap, sym, subst, refl, ◌∙◌, length, Body, Did, List, SawAt, Stays, acts_same, away_as, becomes_same, becomes_state, ending_again}
use Rattle.xh_place.proofs.Common.{is_over, same_then, starts_same}
use Rattle.xh_place.proofs.Common.{again_over, again_same, arith, late_state, word_wide}
use Rattle.xh_core.specs.declared.status.Status.TheVariants.{Ending}
use Rattle.xh_place.specs.Accepting.{IsTooLate}
use Rattle.xh_place.specs.Places.{PlaceSeen}
use Rattle.xh_place.proofs.place.Place.accept_late.Goals.{After-set_state-2}
use Rattle.xh_place.proofs.place.Place.accept_late.Goals as goal

pub set_state-requires-2 : goal.set_state-requires-2
set_state-requires-2 g c = λ h. again_over c.args.self.now.state c.left.result c.sweep_late.new.self.list c.requires.taken c.left.ensures.left
    (ap is_over (sym (c.ending_again.ensures ∙ ap (λ s. ending_again s c.left.result) c.state-state.ensures)) ∙ h)

pub returns-clause-swept : goal.returns-clause-swept
returns-clause-swept g c =
    let old = c.args.self.now in let mid = c.set_state.new.self in let swept = c.sweep_late.new.self in let new = c.set_state-2.new.self in let d : ℕ = c.args.direction in let r : ℕ = c.args.r in
    let begun = c.set_state.ensures.state in let n : ℕ = c.left.result in let t = ending_again old.state n in
    let last : new ≡ record swept { state = t } = c.set_state-2.ensures.state ∙ ap (λ s. record swept { state = s }) (c.ending_again.ensures ∙ ap (λ s. ending_again s n) c.state-state.ensures) in
    let all : n ≡ length swept.list = omega (arith, c.left.ensures.left) in
    let seat = ap (λ s. s.seat) begun in let left = ap (λ s. s.seat) last in
    ⊎_elim
    (λ h.
    let same : Stays (record old { state = mid.state }) swept = subst (λ (p : PlaceSeen). Stays (record p { state = mid.state }) swept) begun h.0 in
    let again : t ≡ old.state = ap (ending_again old.state) (all ∙ ap (λ (p : PlaceSeen). length p.list) same.0) ∙ again_same old.state old.list c.set_state.ensures.quiet in inl (
      subst (Stays old) (sym (last ∙ ap (λ s. record swept { state = s }) again)) (becomes_state _ _ _ (record old { state = mid.state }) swept old.state same),
      h.1,
      away_as (SawAt mid.seat.shape mid.seat.front swept.seat.front) (SawAt old.seat.shape old.seat.front new.seat.front)
          (word_wide mid.seat swept.seat old.seat new.seat (ap (λ h. h.shape) seat) (ap (λ h. h.process) seat) (starts_same (ap (λ h. h.front) seat)) (starts_same (ap (λ h. h.front) left))) d r h.2,
    ))
    (λ h.
    let late : IsTooLate d r Ending (record old { state = Ending }) swept h.0 = subst (λ (p : PlaceSeen). IsTooLate d r p.state p swept h.0) begun h.1 in
    let end = subst (λ (p : PlaceSeen). IsTooLate d r t old p h.0) (sym last) (late_state d r Ending t old.state (record old { state = Ending }) swept h.0 late) in
    inr (h.0, subst (λ s. IsTooLate d r s old new h.0) (ap (ending_again old.state) (all ∙ sym (ap (λ (p : PlaceSeen). length p.list) last))) end, h.2))
    c.sweep_late.ensures.swept

pub returns-clause-place : goal.returns-clause-place
returns-clause-place g c = ⊎_elim (λ h. becomes_same _ _ _ c.args.self.now c.set_state-2.new.self h.0)
    (λ h. let b = h.1.5 in acts_same _ c.set_state-2.new.self.seat.lots c.args.self.now.seat c.set_state-2.new.self.seat (ap (λ (p : PlaceSeen). p.seat) b.0, b.1)) (returns-clause-swept g c)
