use Rattle.xh_history.proofs.Keeping.{last_push}
use Rattle.xh_kernel.proofs.Common.{Entry, Glance, IsHistoryOf, Option, [], ap, at, last_glance, option_map, place_of, refl, rules, subst}
use Rattle.xh_kernel.proofs.Common.{sym, unwrap_or, ℕ, ◌++◌, ◌∙◌, ◌∷◌, ◌≡◌}
use Rattle.xh_kernel.proofs.Recorded.{at_step, led, longer}
use Rattle.xh_kernel.specs.Calls.{LeadsOn}
use Rattle.xh_kernel.specs.Words.{unpacked, vacant}
use Rattle.xh_kernel.proofs.scribe.Scribe.note.Goals.{else-same, then-same}
use Rattle.xh_kernel.proofs.scribe.Scribe.note.Goals as goal

pub invariant_of-self : goal.invariant_of-self
invariant_of-self g c =
    let glance = c.shown-glance.result in let pen = c.args.self.now.pen in let shown = c.shown-glance.ensures.shown in
    let number : place_of glance.process ≡ pen.number = ap (λ (g : Glance). place_of g.process) shown ∙ c.requires.1.1.1.1.1.0.0 in
    let made : unpacked pen.number c.if-same.word ≡ glance = elim c.if-same.branch [
      | then-same w ↦ ap (unpacked pen.number) w.word-is ∙ sym c.args.self.now.told ∙ (c.requires.1.1.1.1.1.1.1 w.if-same.true).last ∙ sym shown
      | else-same w ↦ ap (unpacked pen.number) w.word-is ∙ subst (λ k. unpacked k w.pack-word.result ≡ glance) number w.pack-word.ensures
    ] in
    let last = ap (λ (o : Option (ℕ × Entry)). unwrap_or (option_map (λ c. c.1.glance) o) (vacant pen.number))
    (last_push pen.history (c.args.front.now.number, record { call = g.call; glance = glance })) in
    record { told = subst (λ p. last_glance p.number p.history ≡ unpacked p.number c.if-same.word) (sym c.add.ensures.pen) (last ∙ sym made) }

pub returns-clause-history : goal.returns-clause-history
returns-clause-history g c =
    let pen = c.args.self.now.pen in let d = c.requires.1.1.1.1.1.1.0 in let s = c.shown-glance.ensures in
    subst (λ p. IsHistoryOf g.N.Names.parts p.number p.history c.args.place.now) (sym c.add.ensures.pen)
    (longer g.N.Names.parts pen.history g.call d.0 d.1 c.requires.1.1.1.0.1 d.2 (c.requires.1.1.1.1.0, s.lawful) d.3 s.shown)

pub returns-clause-now : goal.returns-clause-now
returns-clause-now g c = λ k is.
    let parts = g.N.Names.parts in let leads = g.N.Names.leads in let pen = c.args.self.now.pen in let d = c.requires.1.1.1.1.1.1.0 in let s = c.shown-glance.ensures in
    let x : ℕ × Entry = (c.args.front.now.number, record { call = g.call; glance = c.shown-glance.result }) in
    let last : at c.add.new.front.fronts pen.number ≡ pen.history ++ x ∷ [] = search rules in
    let on = longer parts pen.history g.call d.0 d.1 c.requires.1.1.1.0.1 d.2 (c.requires.1.1.1.1.0, s.lawful) d.3 s.shown in
    subst (λ j. LeadsOn parts leads j pen.history (at c.add.new.front.fronts j) c.args.place.now) is (subst (λ h. LeadsOn parts leads pen.number pen.history h c.args.place.now) (sym last)
    (λ from was. led parts leads c.args.shared.now.law pen.number x pen.history (pen.history ++ x ∷ []) from c.args.place.now _ was on refl (refl, refl)))

pub returns-clause-step : goal.returns-clause-step
returns-clause-step g c = λ k is.
    let d = c.requires.1.1.1.1.1.1.0 in let was = subst (λ j. IsHistoryOf g.N.Names.parts j c.args.self.now.pen.history d.0) is d.1 in
    at_step g.N.Names.leads k _ _ d.0 c.args.place.now d.2 (returns-clause-now g c k is d.0 was)
