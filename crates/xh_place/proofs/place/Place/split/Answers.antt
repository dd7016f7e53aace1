use Rattle.xh_place.proofs.Common.{becomes, rules, arith, ◌≡◌, ◌≤◌, ◌-◌, [], ◌∷◌, ◌++◌, length, refl, sym, ap, ◌∙◌, subst, ⊎_elim, inl, inr, ◌/◌, Err, FindsFull, Ok, acts_then, claimed}
use Rattle.xh_place.proofs.Common.{first_refusal, found, full_since, is_running, lets_since, list_room}
use Rattle.xh_place.proofs.Common.{now_as, now_is, over_running, parted, put, refused_by, runs, split_tests, start, untested, value_at}
use Rattle.xh_model.specs.Arena.{IsGoodCut}
use Rattle.xh_place.specs.Calls.{Splits}
use Rattle.xh_place.specs.Splitting.{IsUncut}
use Rattle.xh_place.proofs.place.Place.split.Goals as goal

pub cut_block-requires-clause-held : goal.cut_block-requires-clause-held
cut_block-requires-clause-held g c =
    let q = c.in_ok-len.ensures.tested.1 in let same = c.in_ok-len.ensures.same in let at = ap (λ h. value_at c.args.r h.lots) same.0 ∙ q.1 in
    let b = (now_is c.self.inside.seat c.test_cut.new.seat same.0 c.self.invariant).whole c.args.r q.0 at in
    (q.0, at, b, (q.2, b.full.1, b.full.0), subst (λ n. IsGoodCut c.args.k n) (sym q.3) q.4)

pub push_reserved-requires : goal.push_reserved-requires
push_reserved-requires g c =
    let q = c.in_ok-len.ensures.tested.1 in let same = c.in_ok-len.ensures.same in let cut = c.in_ok-rec.ensures.cut q.0 (ap (λ h. value_at c.args.r h.lots) same.0 ∙ q.1) in
    list_room (now_is c.self.inside.seat c.test_cut.new.seat same.0 c.self.invariant) cut.5 cut.2

pub invariant_of-self-2 : goal.invariant_of-self-2
invariant_of-self-2 g c =
    let q = c.in_ok-len.ensures.tested.1 in let same = c.in_ok-len.ensures.same in let at = ap (λ h. value_at c.args.r h.lots) same.0 ∙ q.1 in let cut = c.in_ok-rec.ensures.cut q.0 at in
    let alive = over_running c.self.inside.state (ap is_running (runs c.self.inside.state (split_tests (found c.self.inside.seat c.args.r) c.args.k) c.in_ok-len.ensures.tested.0)) in
    now_as (now_is c.test_cut.new.seat c.cut_block.new.seat cut.3.0
    (parted (now_is c.self.inside.seat c.test_cut.new.seat same.0 c.self.invariant) alive at cut.4 cut.5 cut.2 cut.7)) c.push_reserved.ensures.items c.push_reserved.ensures.capacity refl

pub returns-clause-cut : goal.returns-clause-cut
returns-clause-cut g c =
    let seat = c.self.inside.seat in let mid = c.test_cut.new.seat in let last = c.cut_block.new.seat in let r = c.args.r in let k = c.args.k in
    let q = c.in_ok-len.ensures.tested.1 in let same = c.in_ok-len.ensures.same in let cut = c.in_ok-rec.ensures.cut q.0 (ap (λ h. value_at r h.lots) same.0 ∙ q.1) in
    let tail : cut.1.len ≡ c.in_ok-len.len - k = omega (arith, q.3, cut.6, cut.7) in
    subst (λ z. Splits z.state r k z (record { seat = last; list = c.push_reserved.new.self.items; state = c.self.inside.state })
    (Ok (record { rec = r; len = k }, record { rec = c.in_ok-rec.rec; len = c.in_ok-len.len - k }))) c.self.view_is (record {
      cut = (
        q.0,
        cut.0,
        cut.1,
        q.1,
        becomes seat last _ _ (acts_then (λ p. claimed p (c.in_ok-rec.rec ∷ [])) (λ ls. put r cut.0 ls ++ (c.in_ok-rec.rec, cut.1) ∷ []) seat mid last same cut.3) c.push_reserved.ensures.items refl,
        (λ i. record { len = cut.6 i; content = cut.8 i }),
        (λ i. record { len = tail i; content = cut.9 i }),
        refl,
        cut.10,
        omega (arith, q.3, q.4.2),
      );
      refused = tt;
      why = untested (start c.self.inside.state ++ split_tests (found seat r) k) _ _ c.in_ok-len.ensures.tested.0 tt;
    })

pub returns-in_err-rec-clause-cut : goal.returns-in_err-rec-clause-cut
returns-in_err-rec-clause-cut g c =
    let seat = c.self.inside.seat in let mid = c.test_cut.new.seat in let last = c.cut_block.new.seat in let same = c.in_ok-len.ensures.same in let arena = c.args.r / 256 in
    let e = c.in_err-rec.field-0.0 in let is : c.from_residual-in_err-rec.result ≡ Err e = search rules in
    let why : IsUncut (FindsFull 0 seat last arena) e = ⊎_elim (λ h. inl (h.0, full_since 0 arena seat mid last same h.1)) (λ h. inr h) c.in_err-rec.ensures.why in
    subst (λ z. Splits z.state c.args.r c.args.k z (record { seat = last; list = c.self.inside.list.items; state = c.self.inside.state }) c.from_residual-in_err-rec.result) c.self.view_is
    (rw is (record {
      cut = tt;
      refused = (lets_since (λ cs. length cs ≤ 1) arena seat mid last same c.in_err-rec.ensures.refused.0, refl, refl);
      why = untested (start c.self.inside.state ++ split_tests (found seat c.args.r) c.args.k) _ _ c.in_ok-len.ensures.tested.0 why;
    }))

pub returns-in_err-len-clause-cut : goal.returns-in_err-len-clause-cut
returns-in_err-len-clause-cut g c =
    let seat = c.self.inside.seat in let mid = c.test_cut.new.seat in let same = c.in_err-len.ensures.same in
    let e = c.in_err-len.field-0.0 in let is : c.from_residual.result ≡ Err e = search rules in
    subst (λ z. Splits z.state c.args.r c.args.k z (record { seat = mid; list = c.self.inside.list.items; state = c.self.inside.state }) c.from_residual.result) c.self.view_is
    (rw is (record {
      cut = tt;
      refused = (([], omega arith, (λ r a. absurd a), same), refl, refl);
      why = refused_by (start c.self.inside.state ++ split_tests (found seat c.args.r) c.args.k) _ _ c.in_err-len.ensures.tested (refl, becomes seat mid _ _ same refl refl);
    }))
