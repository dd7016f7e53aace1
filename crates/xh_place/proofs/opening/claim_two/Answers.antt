use Rattle.xh_place.proofs.Common.{◌≡◌, ℕ, ◌<◌, ◌%◌, length, [], ◌∷◌, ◌++◌, append_assoc, inl, sym, ap, ◌∙◌, subst, Among, keys, value_at, among_back, among_front, keys_push, IsRecord, IsLotOf}
use Rattle.xh_place.proofs.Common.{Acts, Body, List, LotOf, acts_twice, claim_acts, claimed, full_after, full_now, has, vacate_acts}
use Rattle.xh_place.proofs.opening.claim_two.Goals.{In-Ok}
use Rattle.xh_place.proofs.opening.claim_two.Goals as goal

exists : (g : _) (c : In-Ok g) → IsRecord c.args.seat.now.shape c.in-Ok.r
exists g c = (
  subst (λ n. n < length c.args.seat.now.shape.names) (sym c.in-Ok.ensures.record.0) c.requires.arena,
  subst (λ z. c.in-Ok.r % 256 < z.records) (sym c.requires.own.1) c.in-Ok.ensures.record.1,
)

pub vacate-requires-clause-held : goal.vacate-requires-clause-held
vacate-requires-clause-held g c =
    let t = c.in-Ok.ensures.claimed in let seat = c.args.seat.now in
    (t.0, ap (λ h. value_at c.in-Ok.r h.lots) c.in_default-claim.ensures.missed.0 ∙ has seat c.claim.new.seat c.in-Ok.r t.0 t.1.0 c.in-Ok.ensures.fresh, t.3)

pub returns-in_default-clause-claimed : goal.returns-in_default-clause-claimed
returns-in_default-clause-claimed g c = full_now c.args.arena 1 _ c.args.seat.now c.claim.new.seat c.in_default.ensures.seen c.in_default.ensures.missed

pub returns-in_default-claim-clause-claimed : goal.returns-in_default-claim-clause-claimed
returns-in_default-claim-clause-claimed g c =
    let t = c.in-Ok.ensures.claimed in let seat = c.args.seat.now in let mid = c.claim.new.seat in let late = c.claim-2.new.seat in let last = c.vacate.new.seat in let r : ℕ = c.in-Ok.r in
    let at = ap (λ h. value_at r h.lots) c.in_default-claim.ensures.missed.0 ∙ has seat mid r t.0 t.1.0 c.in-Ok.ensures.fresh in
    full_after c.args.arena _ seat mid late last r t.0 c.in-Ok.ensures.record.0 (claim_acts seat mid seat.process r t) c.in-Ok.ensures.fresh
    c.in_default-claim.ensures.seen c.in_default-claim.ensures.missed (vacate_acts late last late.process r t.0 at t.3 c.vacate.ensures.vacated)

pub returns-clause-claimed : goal.returns-clause-claimed
returns-clause-claimed g c =
    let t = c.in-Ok.ensures.claimed in let u = c.in-Ok-claim.ensures.claimed in let r : ℕ = c.in-Ok.r in let q : ℕ = c.in-Ok-claim.t in let lots = c.args.seat.now.lots in
    let keyed : keys c.claim.new.seat.lots ≡ keys lots ++ r ∷ [] = ap (λ h. keys h.lots) t.1.0 ∙ keys_push lots (r, t.0) in
    let fresh : Among (keys lots ++ r ∷ []) q → ⊥ = λ h. c.in-Ok-claim.ensures.fresh (subst (λ ks. Among ks q) (sym keyed) h) in
    let seat = c.args.seat.now in let mid = c.claim.new.seat in let last = c.claim-2.new.seat in
    let whose : mid.process ≡ seat.process = ap (λ h. h.process) t.1.0 in
    let both : mid.lots ++ (q, u.0) ∷ [] ≡ lots ++ (r, t.0) ∷ (q, u.0) ∷ [] = ap (λ h. h.lots ++ (q, u.0) ∷ []) t.1.0 ∙ append_assoc lots ((r, t.0) ∷ []) ((q, u.0) ∷ []) in (
      t.0,
      u.0,
      record {
        two = record {
          lots = subst (λ (z : ℕ × List (ℕ × LotOf Body)). Acts (claimed seat.process (r ∷ []) ++ claimed z.0 (q ∷ [])) z.1 seat last) (λ i. (whose i, both i))
              (acts_twice (claimed seat.process (r ∷ [])) (claimed mid.process (q ∷ [])) (lots ++ (r, t.0) ∷ []) (mid.lots ++ (q, u.0) ∷ []) seat mid last
              (claim_acts seat mid seat.process r t) (claim_acts mid last mid.process q u));
          first_fresh = c.in-Ok.ensures.fresh;
          second_fresh = λ h. fresh (among_front (keys lots) (r ∷ []) q h);
          apart = λ e. fresh (among_back (keys lots) (r ∷ []) q (inl (sym e)));
          first_arena = c.in-Ok.ensures.record.0;
          second_arena = c.in-Ok-claim.ensures.record.0;
        };
        first = (exists g (goal.at.returns-clause-claimed g c).In-Ok, t.2, t.3);
        second = (
          (
            subst (λ n. n < length c.args.seat.now.shape.names) (sym c.in-Ok-claim.ensures.record.0) c.requires.arena,
            subst (λ z. q % 256 < z.records) (sym c.requires.own.1) c.in-Ok-claim.ensures.record.1,
          ),
          subst (λ z. IsLotOf z q u.0) (ap (λ h. h.shape) t.1.0) u.2,
          u.3,
        );
      },
    )
