use Rattle.xh_core.proofs.Common.{Carve, Claim, Cut, IsLawful, None, Some, Store, [], ap, arith, free_record, len, nat_tests, subst, sym, ◌∙◌, ◌∷◌, ◌≡◌}
use Rattle.xh_model.specs.Store.{after}
use Rattle.xh_core.specs.Gaining.{Gained}
use Rattle.xh_core.proofs.Claiming.{is_one}
use Rattle.xh_core.proofs.Pairs.{TwoFree, back_again, pair_room, two_free}
use Rattle.xh_core.proofs.plain.Plain.allocate_ends.Goals as goal
use Rattle.xh_core.proofs.plain.Plain.allocate_ends.Goals.{In-Some-next}

pub returns-in_default-next-clause-unchanged : goal.returns-in_default-next-clause-unchanged
returns-in_default-next-clause-unchanged c =
    back_again c.args.self.now c.claim.new.self c.vacate.new.self c.args.p c.args.arena c.in-Some.r (subst IsLawful c.self.view_is c.self.invariant.0) c.requires.process
    (sym c.free_record.ensures ∙ c.in-Some.is) c.claim.ensures.after c.vacate.ensures.after

-- ---- what was found

same : (c : In-Some-next) → c.vacate.new.self ≡ c.args.self.now
same c =
    back_again c.args.self.now c.claim.new.self c.vacate.new.self c.args.p c.args.arena c.in-Some.r (subst IsLawful c.self.view_is c.self.invariant.0) c.requires.process
    (sym c.free_record.ensures ∙ c.in-Some.is) c.claim.ensures.after c.vacate.ensures.after

two : (c : In-Some-next) → TwoFree c.args.p c.args.arena c.in-Some.r c.in-Some-next.t 64 c.args.self.now
two c = two_free c.args.self.now c.args.p c.args.arena c.in-Some.r c.in-Some-next.t 64 (subst IsLawful c.self.view_is c.self.invariant.0) c.requires.process
    (sym c.free_record.ensures ∙ c.in-Some.is)
    (subst (λ (x : Store). free_record x c.args.arena ≡ Some c.in-Some-next.t) c.claim.ensures.after (sym c.free_record-next.ensures ∙ c.in-Some-next.is))

pub allocate-requires-clause-known : goal.allocate-requires-clause-known
allocate-requires-clause-known c = let d = (goal.at.allocate-requires-clause-known c).In-Some-next in rw (same d) (two d).known_r

pub allocate-requires-clause-free : goal.allocate-requires-clause-free
allocate-requires-clause-free c = let d = (goal.at.allocate-requires-clause-free c).In-Some-next in rw (same d) (two d).free_r

pub returns-in-Err-clause-tests : goal.returns-in-Err-clause-tests
returns-in-Err-clause-tests c =
    let d = (goal.at.returns-in-Err-clause-tests c).In-Some-next in pair_room _ _ _ _ _ _ (Some c.in-Err.refused) (two d) (rw (same d) at c.in-Err.ensures.room)

pub returns-in-Err-clause-unchanged : goal.returns-in-Err-clause-unchanged
returns-in-Err-clause-unchanged c = c.in-Err.ensures.unchanged ∙ same (goal.at.returns-in-Err-clause-unchanged c).In-Some-next

-- ---- the first record has its bytes

carved : (c : In-Some-next) (n : Store) → n ≡ after (Carve c.args.p c.in-Some.r 64) (after (Claim c.args.p c.in-Some.r) c.vacate.new.self) →
    n ≡ after (Carve c.args.p c.in-Some.r 64) (after (Claim c.args.p c.in-Some.r) c.args.self.now)
carved c n is = is ∙ ap (λ (s : Store). after (Carve c.args.p c.in-Some.r 64) (after (Claim c.args.p c.in-Some.r) s)) (same c)

pub part-requires-clause-known : goal.part-requires-clause-known
part-requires-clause-known c =
    let d = (goal.at.part-requires-clause-known c).In-Some-next in rw (carved d c.allocate.new.self c.in_default-allocate.ensures.store) (two d).known_t

pub part-requires-clause-free : goal.part-requires-clause-free
part-requires-clause-free c = let d = (goal.at.part-requires-clause-free c).In-Some-next in rw (carved d c.allocate.new.self c.in_default-allocate.ensures.store) (two d).free_t

pub part-requires-clause-arena : goal.part-requires-clause-arena
part-requires-clause-arena c = (two (goal.at.part-requires-clause-arena c).In-Some-next).both

pub returns-clause-done : goal.returns-clause-done
returns-clause-done c =
    let d = (goal.at.returns-clause-done c).In-Some-next in
    let found : TwoFree c.args.p c.args.arena c.in-Some.r c.in-Some-next.t 64 c.args.self.now = two d in
    let first = c.in_default-allocate.ensures in
    let one : Gained c.args.p (c.in-Some.r ∷ []) c.args.self.now c.allocate.new.self = rw (same d) at first.gained in
    let other : Gained c.args.p (c.in-Some-next.t ∷ []) c.allocate.new.self c.part.new.self = c.part.ensures.gained in
    record {
      low = found.low;
      high = found.high;
      is = c.part.ensures.store ∙ ap (after (Cut c.args.p c.in-Some.r c.in-Some-next.t 32))
          (ap (after (Claim c.args.p c.in-Some-next.t)) (carved d c.allocate.new.self first.store) ∙ found.later);
      lawful = other.lawful;
      apart = found.apart;
      free = (found.free_r, found.free);
      owners = λ q. grind (arith, nat_tests, is_one q c.in-Some.r, is_one q c.in-Some-next.t, one.owners q, other.owners q);
      many = other.many ∙ one.many;
      head = c.part.ensures.head;
      tail = (let t = c.part.ensures.tail in let l = first.length in omega (arith, t, l));
      kept = λ q nr nt. c.part.ensures.others q nr nt ∙ (first.others q nr ∙ ap (λ (s : Store). len s q) (same d));
    }

pub returns-clause-tests : goal.returns-clause-tests
returns-clause-tests c =
    let d = (goal.at.returns-clause-tests c).In-Some-next in pair_room _ _ _ _ _ _ None (two d) (rw (same d) at c.in_default-allocate.ensures.room)
