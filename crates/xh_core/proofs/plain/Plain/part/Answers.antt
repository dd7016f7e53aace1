use Rattle.xh_core.proofs.Common.{Claim, Cut, IsLawful, Store, after, ap, arith, can, cases_eq, inl, inr, len, subst, sym, true, ℕ, ◌+◌, ◌<◌, ◌∙◌, ◌≡◌}
use Rattle.xh_core.proofs.Claiming.{Claimed, claimed, apart, can_cut, cut-owners, gained_one}
use Rattle.xh_core.proofs.Stores.{same_len}
use Rattle.xh_core.proofs.plain.Plain.part.Goals as goal
use Rattle.xh_core.proofs.plain.Plain.part.Goals.{After-cut}

known : (c : After-cut) → Claimed c.args.p c.args.t c.args.self.now (after (Claim c.args.p c.args.t) c.args.self.now)
known c = claimed c.args.self.now c.args.p c.args.t (subst IsLawful c.self.view_is c.self.invariant.0) c.requires.process c.requires.known c.requires.free

same : (c : After-cut) (q : ℕ) → len c.claim.new.self q ≡ len c.args.self.now q
same c q = same_len c.args.self.now c.claim.new.self q c.claim.ensures.arenas

done : (c : After-cut) → c.cut.result ≡ true
done c = c.cut.ensures.done ∙ (ap (λ (u : Store). can (Cut c.args.p c.args.r c.args.t c.args.k) u) c.claim.ensures.after
    ∙ can_cut c.args.self.now (after (Claim c.args.p c.args.t) c.args.self.now) c.args.p c.args.r c.args.t c.args.k (known c) c.requires.held
    (apart c.args.self.now c.args.p c.args.r c.args.t c.requires.held c.requires.free) c.requires.arena c.requires.some c.requires.multiple c.requires.inside)

pub returns-clause-head : goal.returns-clause-head
returns-clause-head c = c.cut.ensures.head (done (goal.at.returns-clause-head c).After-cut)

pub returns-clause-tail : goal.returns-clause-tail
returns-clause-tail c = let d = (goal.at.returns-clause-tail c).After-cut in c.cut.ensures.tail (done d) ∙ same d c.args.r

pub returns-clause-others : goal.returns-clause-others
returns-clause-others c = λ q nr nt. c.cut.ensures.others q nr nt ∙ same (goal.at.returns-clause-others c).After-cut q

pub returns-clause-gained : goal.returns-clause-gained
returns-clause-gained c =
    let d = (goal.at.returns-clause-gained c).After-cut in
    let head : len c.cut.new.self c.args.r ≡ c.args.k = c.cut.ensures.head (done d) in
    let tail : len c.cut.new.self c.args.t + c.args.k ≡ len c.args.self.now c.args.r = c.cut.ensures.tail (done d) ∙ same d c.args.r in
    let inside : c.args.k < len c.args.self.now c.args.r = c.requires.inside in
    gained_one c.args.self.now c.cut.new.self c.args.p c.args.t (subst IsLawful c.self-2.view_is c.self-2.invariant.0) (known d) c.requires.free
    (ap (λ (t : Store). t.owners) c.cut.ensures.after ∙ (cut-owners c.claim.new.self c.args.p c.args.r c.args.t c.args.k ∙ ap (λ (t : Store). t.owners) c.claim.ensures.after))
    (omega (arith, tail, inside))
    (λ q nt l. elim (cases_eq q c.args.r) [
      | inl e ↦ subst (λ (x : ℕ). 0 < len c.cut.new.self x) (sym e) (subst (λ (n : ℕ). 0 < n) (sym head) c.requires.some)
      | inr nr ↦ subst (λ (n : ℕ). 0 < n) (sym (c.cut.ensures.others q nr nt ∙ same d q)) l
    ])
