use Rattle.xh_place.proofs.Common.{inl, inr, arith, ℕ, [], ◌∷◌, ◌++◌, refl, sym, subst, ap, ◌∙◌, length, MAX_BUDGET, IsSeen, IsSwept, accepted_on, becomes_same, becomes_twice, item_of, own_becomes}
use Rattle.xh_place.proofs.Common.{seen_wide, shown, shown_gain, shown_long}
use Rattle.xh_place.proofs.Common.{starts_same, swept_as}
use Rattle.xh_place.specs.Seen.{brings}
use Rattle.xh_place.specs.inner.Answers.{Comes}
use Rattle.xh_place.proofs.Swept.{first_bytes, swept_end}
use Rattle.xh_place.proofs.place.Place.sweep_late.Goals as goal

pub returns-in-Missing-clause-swept : goal.returns-in-Missing-clause-swept
returns-in-Missing-clause-swept g c =
    let old = c.args.self.now in let t = subst (Comes old c.accept.new.self c.args.direction c.args.r) c.in-Missing.is c.accept.ensures.got in
    inl (t.2, refl, (c.in-Missing.word, t.1, t.3))

pub returns-in-Here-clause-swept : goal.returns-in-Here-clause-swept
returns-in-Here-clause-swept g c =
    let old = c.args.self.now in let mid = c.accept.new.self in let new = c.sweep-swept.new.self in let r : ℕ = c.args.r in let d : ℕ = c.args.direction in let p : ℕ = old.seat.process in
    let t = subst (Comes old mid d r) c.in-Here.is c.accept.ensures.got in let x = item_of t.1 in let bytes : ℕ = c.sweep-swept.result.0 in let s = c.sweep-swept.ensures.swept in
    let came = becomes_same _ _ _ old mid t.4 in let after = (becomes_same _ _ _ mid new s.2).3 in
    let one = swept_as (IsSeen mid.seat new.seat) (IsSeen old.seat new.seat) (seen_wide mid.seat new.seat old.seat new.seat came.1 came.2 came.3 (starts_same refl))
    p c.count-from.result MAX_BUDGET (shown mid.seat.lots mid.list) (shown new.seat.lots new.list) bytes s.0
    (subst (λ n. IsSwept (IsSeen mid.seat new.seat) n c.count-from.result MAX_BUDGET (shown mid.seat.lots mid.list) (shown new.seat.lots new.list) bytes s.0) came.2 s.1) in
    let end = swept_end (IsSeen old.seat new.seat) p (shown old.seat.lots old.list) ((r, x) ∷ []) MAX_BUDGET bytes s.0 (shown mid.seat.lots mid.list) (shown new.seat.lots new.list) t.6
    (subst (λ n. IsSwept (IsSeen old.seat new.seat) p n MAX_BUDGET (shown mid.seat.lots mid.list) (shown new.seat.lots new.list) bytes s.0) (c.count-from.ensures.count
    ∙ sym (shown_long old.seat.lots old.list)) one) in
    inr (
      bytes,
      (
        t.1,
        end.0,
        s.0,
        end.1,
        end.2,
        becomes_twice (accepted_on p d ((r, x) ∷ [])) s.0 _ _ _ _ old mid new t.4 s.2,
        t.3,
        first_bytes (IsSeen old.seat new.seat) p MAX_BUDGET r x end.0 bytes s.0 (omega arith) end.1,
        seen_wide old.seat mid.seat old.seat new.seat refl refl (starts_same refl) after r (brings d x) t.5,
      ),
      c.sweep-swept.ensures.back,
    )
