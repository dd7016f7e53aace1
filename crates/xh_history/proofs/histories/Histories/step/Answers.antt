use Rattle.std.proofs.Common.{None, Some, sym, ap, subst, suc, ℕ, ◌∙◌, arith}
use Rattle.xh_history.specs.inner.Views.{IsFrontOrNone, IsPen, front_of, kept_from}
use Rattle.xh_history.proofs.Keeping.{adds, stays_pen}
use Rattle.xh_history.proofs.histories.Histories.step.Goals as goal
use Rattle.xh_history.proofs.histories.Histories.step.Goals.{in-Some, in-None}

pub store-requires : goal.store-requires
store-requires g c =
    let me = c.join_seat.ensures in let w = c.word_at-index.ensures.word in
    let views = ap (λ b. b.views) (sym c.replace-badge.ensures.value) ∙ c.into_seat.ensures.2 in
    let worker = ap (λ l. (front_of c.front.inside.badge.table_id l).number) (sym views) ∙ ap (λ f. f.number) c.front.view_is in
    let told = rw (← c.pen.view_is, ← worker, c.in-Some.is) at c.requires.shown in (
      me.0 ∙ ap (λ p. p.table) c.pen.view_is ∙ c.requires.tables.0 ∙ sym c.self.view_is,
      omega (arith, w, c.pen.invariant.place, c.self.invariant),
      rw me.2 (adds g.S.Shows.shows _ _ _ _ (Some c.in-Some.word) _ _ _ g.C.Says.calls w c.pen.invariant (subst IsFrontOrNone views c.front.invariant) told),
    )

pub load-requires : goal.load-requires
load-requires g c =
    let me = c.join_seat.ensures in let w = c.word_at-index.ensures.word in
    let views = ap (λ b. b.views) (sym c.replace-badge.ensures.value) ∙ c.into_seat.ensures.2 in
    let worker = ap (λ l. (front_of c.front.inside.badge.table_id l).number) (sym views) ∙ ap (λ f. f.number) c.front.view_is in
    let told = rw (← c.pen.view_is, ← worker, c.in-None.is) at c.requires.shown in (
      me.0 ∙ ap (λ p. p.table) c.pen.view_is ∙ c.requires.tables.0 ∙ sym c.self.view_is,
      omega (arith, w, c.pen.invariant.place, c.self.invariant),
      rw me.2 (adds g.S.Shows.shows _ _ _ _ None _ _ _ g.C.Says.calls w c.pen.invariant (subst IsFrontOrNone views c.front.invariant) told),
    )

pub invariant_of-pen : goal.invariant_of-pen
invariant_of-pen g c =
    let server = subst IsFrontOrNone (ap (λ b. b.views) (sym c.replace-badge.ensures.value) ∙ c.into_seat.ensures.2) c.front.invariant in
    let pen = c.pen.inside in let left = c.split_seat.new.seat.me.0 in let joined = ap (λ m. m.0) c.join_seat.ensures.2 in let split = ap (λ m. m.0) c.split_seat.ensures.2 in
    elim c.match-word.branch [
      | in-Some w ↦ subst (λ (n : ℕ). IsPen n left) (sym (ap (λ s. s.number) w.pen-inside-is))
          (stays_pen pen.number pen.seat.me.0 _ left _ w.store.new.seat.me.0 g.C.Says.calls c.pen.invariant server joined (ap (λ m. m.0) w.store.ensures.2.0)
          (split ∙ ap (λ s. kept_from s.seat.me.0.place (suc s.seat.me.0.worker) s.seat.me.0) w.pen-inside-is))
      | in-None w ↦ subst (λ (n : ℕ). IsPen n left) (sym (ap (λ s. s.number) w.pen-inside-is))
          (stays_pen pen.number pen.seat.me.0 _ left _ w.load.new.seat.me.0 g.C.Says.calls c.pen.invariant server joined (ap (λ m. m.0) w.load.ensures.2.0)
          (split ∙ ap (λ s. kept_from s.seat.me.0.place (suc s.seat.me.0.worker) s.seat.me.0) w.pen-inside-is))
    ]
