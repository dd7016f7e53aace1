use Rattle.xh_core.proofs.Common.{Claim, IsLawful, Process, Store, Vacate, after, ap, holds, is_known, len, subst, sym, true, ℕ, ◌/◌, ◌<◌, ◌∙◌, ◌≡◌}
use Rattle.xh_core.proofs.Claiming.{Claimed, claimed, unclaimed, same_space, carve-owners, gained_one}
use Rattle.xh_core.proofs.Stores.{same_len}
use Rattle.xh_core.proofs.plain.Plain.allocate.Goals as goal
use Rattle.xh_core.proofs.plain.Plain.allocate.Goals.{After-claim}

known : (c : After-claim) → Claimed c.args.p c.args.r c.args.self.now (after (Claim c.args.p c.args.r) c.args.self.now)
known c = claimed c.args.self.now c.args.p c.args.r (subst IsLawful c.self.view_is c.self.invariant.0) c.requires.process c.requires.known c.requires.free

pub carve-requires : goal.carve-requires
carve-requires c =
    let cl = known (goal.at.carve-requires c).After-claim in
    let now = sym c.claim.ensures.after in
    record {
      held = subst (λ (t : Store). holds t (Process c.args.p) c.args.r ≡ true) now cl.holds;
      known = subst (λ (t : Store). is_known t c.args.r ≡ true) now cl.known;
      empty = subst (λ (t : Store). len t c.args.r ≡ 0) now cl.empty;
      some = c.requires.some;
      multiple = c.requires.multiple;
    }

pub returns-in-Err-clause-room : goal.returns-in-Err-clause-room
returns-in-Err-clause-room c =
    sym (same_space c.args.self.now c.claim.new.self (c.args.r / 256) c.args.n c.claim.ensures.arenas) ∙ c.in-Err.ensures.room

pub returns-in-Err-clause-unchanged : goal.returns-in-Err-clause-unchanged
returns-in-Err-clause-unchanged c =
    c.vacate.ensures.after ∙ (ap (λ (t : Store). after (Vacate c.args.p c.args.r) t) (c.in-Err.ensures.unchanged ∙ c.claim.ensures.after)
    ∙ unclaimed c.args.self.now c.args.p c.args.r (subst IsLawful c.self.view_is c.self.invariant.0) c.requires.process c.requires.known c.requires.free)

pub returns-clause-others : goal.returns-clause-others
returns-clause-others c = λ q ne. c.carve.ensures.others q ne ∙ same_len c.args.self.now c.claim.new.self q c.claim.ensures.arenas

pub returns-clause-gained : goal.returns-clause-gained
returns-clause-gained c =
    let d = (goal.at.returns-clause-gained c).After-claim in
    gained_one c.args.self.now c.carve.new.self c.args.p c.args.r (subst IsLawful c.self-2.view_is c.self-2.invariant.0) (known d) c.requires.free
    (ap (λ (t : Store). t.owners) c.carve.ensures.after ∙ (carve-owners c.claim.new.self c.args.p c.args.r c.args.n ∙ ap (λ (t : Store). t.owners) c.claim.ensures.after))
    (subst (λ (k : ℕ). 0 < k) (sym c.in_default.ensures.length) c.requires.some)
    (λ q ne l. subst (λ (k : ℕ). 0 < k) (sym (c.carve.ensures.others q ne ∙ same_len c.args.self.now c.claim.new.self q c.claim.ensures.arenas)) l)

pub returns-clause-room : goal.returns-clause-room
returns-clause-room c =
    sym (same_space c.args.self.now c.claim.new.self (c.args.r / 256) c.args.n c.claim.ensures.arenas) ∙ c.in_default.ensures.room
