use Rattle.xh_place.proofs.Common.{Err, Ok, refl, rules, ap, sym, ◌∙◌, ◌≡◌, ◌++◌, ℕ, List, None, Some, Option, subst, [], Acts, AreGot, Becomes, Body, EndDoes, EndpointTakes, Held, IsSeatOf}
use Rattle.xh_place.proofs.Common.{IsSeen, LotOf, MatchOption, accepted_on, acts_none, becomes}
use Rattle.xh_place.proofs.Common.{IsTaken, IsUntaken, Stays, content_of, direction_toward, is_over, items_of, keys, kind_at, put, put_same, there, tried_place, value_at, when_end, when_not}
use Rattle.xh_place.proofs.Common.{with_lots}
use Rattle.xh_place.proofs.Common.{found, is_long, told_none, told_some}
use Rattle.xh_core.specs.Headers.{has_end}
use Rattle.xh_channel.specs.Refusals.{same_refusal}
use Rattle.xh_core.specs.declared.header.Kind.TheVariants as kind
use Rattle.xh_place.proofs.place.Place.take_message.Goals.{After-take_at-taken}
use Rattle.xh_place.proofs.place.Place.take_message.Goals as goal

at : (g : _) (c : After-take_at-taken g) → value_at c.args.e c.self.inside.seat.lots ≡ Some c.requires.held.0
at g c = ap (λ p. value_at c.args.e p.seat.lots) c.self.view_is ∙ c.requires.held.1

pub take_at-taken-requires : goal.take_at-taken-requires
take_at-taken-requires g c =
    let seat = c.self.inside.seat in let all = c.args.desk.now.records.now in let own = subst (λ p. IsSeatOf all p.seat) (sym c.self.view_is) c.requires.own in
    let t = there all seat seat refl own c.self.invariant.whole c.args.e (ap (λ p. value_at c.args.e p.seat.lots) c.self.view_is ∙ c.requires.held.1) in record { own = t.0; held = t.1 }

pub invariant_of-self : goal.invariant_of-self
invariant_of-self g c = let here = at g (goal.at.invariant_of-self g c).After-take_at-taken in
    tried_place c.self.invariant c.args.e here c.take_at-taken.new.seat (EndpointTakes c.take_at-taken.result.0) c.take_at-taken.result.1 (c.take_at-taken.ensures.seat c.requires.held.0 here)

pub invariant_of-self-in-Err : goal.invariant_of-self-in-Err
invariant_of-self-in-Err g c = let here = at g (goal.at.invariant_of-self-in-Err g c).After-take_at-taken in
    tried_place c.self.invariant c.args.e here c.take_at-taken.new.seat (EndpointTakes c.take_at-taken.result.0) c.take_at-taken.result.1 (c.take_at-taken.ensures.seat c.requires.held.0 here)

pub invariant_of-self-2 : goal.invariant_of-self-2
invariant_of-self-2 g c = let here = at g (goal.at.invariant_of-self-2 g c).After-take_at-taken in
    tried_place c.self.invariant c.args.e here c.take_at-taken.new.seat (EndpointTakes c.take_at-taken.result.0) c.take_at-taken.result.1 (c.take_at-taken.ensures.seat c.requires.held.0 here)

pub take_all-requires-clause-own : goal.take_all-requires-clause-own
take_all-requires-clause-own g c =
    let here = at g (goal.at.take_all-requires-clause-own g c).After-take_at-taken in let t = c.take_at-taken.ensures.seat c.requires.held.0 here in
    let own = subst (λ p. IsSeatOf c.args.desk.now.records.now p.seat) (sym c.self.view_is) c.requires.own in (
      (ap (λ h. h.table) t.2 ∙ own.0, ap (λ h. h.shape) t.2 ∙ own.1),
      (told_some _ _ c.take_at-taken.result.1 c.in-Some.direction c.in-Some.is (c.take_at-taken.ensures.direction c.requires.held.0 here)).2,
    )

pub returns-in_default : goal.returns-in_default
returns-in_default g c =
    let here = at g (goal.at.returns-in_default g c).After-take_at-taken in let seat = c.self.inside.seat in let last = c.take_at-taken.new.seat in let l = c.requires.held.0 in let e = c.args.e in
    let way = c.take_at-taken.result.1 in let none : way ≡ None = search rules in let t = c.take_at-taken.ensures.seat l here in
    let kept : last ≡ seat = t.2 ∙ ap (λ z. with_lots seat (put e z seat.lots)) (told_none _ _ way none t.1) ∙ ap (with_lots seat) (put_same e l seat.lots here) in record {
      taken = when_not _ (sym (ap (λ z. has_end (found z.seat e)) c.self.view_is) ∙ kind_at seat e here kind.Data (told_none _ _ way none (c.take_at-taken.ensures.direction l here))) (
        refl,
        subst (λ z. Stays z (record { seat = last; list = c.self.inside.list.items; state = c.self.inside.state })) c.self.view_is
            (becomes seat last _ _ (acts_none seat.lots seat last kept) refl refl),
      );
    }

pub returns-in-Err : goal.returns-in-Err
returns-in-Err g c =
    let here = at g (goal.at.returns-in-Err g c).After-take_at-taken in let seat = c.self.inside.seat in let last = c.take_at-taken.new.seat in let l = c.requires.held.0 in let e = c.args.e in
    let way = c.take_at-taken.result.1 in let t = c.take_at-taken.ensures.seat l here in let w = told_some _ _ way c.in-Some.direction c.in-Some.is (c.take_at-taken.ensures.direction l here) in
    let none = c.in-Err.none in record {
      taken = rw c.from.ensures (when_end _ (sym (ap (λ z. has_end (found z.seat e)) c.self.view_is) ∙ kind_at seat e here kind.End w.0)
          (subst (λ z. IsUntaken e z (record { seat = last; list = c.self.inside.list.items; state = c.self.inside.state }) (same_refusal none)) c.self.view_is (record {
            before = l;
            after = t.0;
            none = none;
            held = (here, is_long (EndpointTakes c.take_at-taken.result.0) (c.self.invariant.whole e l here) (told_some _ _ way c.in-Some.direction c.in-Some.is t.1));
            made = subst (λ r. EndDoes (EndpointTakes r) l t.0) c.in-Err.is (told_some _ _ way c.in-Some.direction c.in-Some.is t.1);
            list = becomes seat last _ _ (acts_none (put e t.0 seat.lots) seat last t.2) refl refl;
            answer = refl;
          })));
    }

pub returns : goal.returns
returns g c =
    let here = at g (goal.at.returns g c).After-take_at-taken in let seat = c.self.inside.seat in let last = c.take_at-taken.new.seat in let l = c.requires.held.0 in let e = c.args.e in
    let way = c.take_at-taken.result.1 in let t = c.take_at-taken.ensures.seat l here in let w = told_some _ _ way c.in-Some.direction c.in-Some.is (c.take_at-taken.ensures.direction l here) in
    let got = c.take_all.ensures.got in let new = c.take_all.new.self in let list = c.self.inside.list.items in let state = c.self.inside.state in
    let mid : Held Body = with_lots seat (put e t.0 seat.lots) in
    let gained = subst (λ (h : Held Body). Becomes (h.lots ++ got.0) (list ++ keys got.0) (accepted_on h.process c.in-Some.direction (items_of got.0))
    (record { seat = h; list = list; state = state }) new) t.2 got.1 in
    let told = subst (λ (h : Held Body). AreGot (IsSeen h new.seat) c.in-Some.direction (items_of got.0) c.take_all.new.got.items) t.2 got.2 in record {
      taken = when_end _ (sym (ap (λ z. has_end (found z.seat e)) c.self.view_is) ∙ kind_at seat e here kind.End w.0)
          (subst (λ z. IsTaken e z new (record { no = c.in-Ok.message.no; tag = c.in-Ok.message.tag; blocks = c.take_all.new.got })) c.self.view_is (record {
            before = l;
            after = t.0;
            message = c.in-Ok.message;
            gained = got.0;
            blocks = items_of got.0;
            came = refl;
            held = (here, is_long (EndpointTakes c.take_at-taken.result.0) (c.self.invariant.whole e l here) (told_some _ _ way c.in-Some.direction c.in-Some.is t.1));
            made = subst (λ r. EndDoes (EndpointTakes r) l t.0) c.in-Ok.is (told_some _ _ way c.in-Some.direction c.in-Some.is t.1);
            told = (refl, refl, c.take_all.ensures.records);
            list = subst (λ (d : ℕ). Becomes (put e t.0 seat.lots ++ got.0) (list ++ keys got.0) (accepted_on seat.process d (items_of got.0)) (record { seat = seat; list = list; state = state })
                new) w.1 gained;
            got = subst (λ (d : ℕ). AreGot (IsSeen seat new.seat) d (items_of got.0) c.take_all.new.got.items) w.1 told;
          }));
    }
