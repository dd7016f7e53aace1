use Rattle.xh_place.proofs.Common.{◌≡◌, ◌∙◌, ◌++◌, [], refl, sym, ap, subst, rules, Acts, Among, Body, Held, IsSeatOf, IsSent, LotOf, None, Some, Stays, Tests, acts_again, becomes, end_tests}
use Rattle.xh_place.proofs.Common.{first_refusal, found, is_some, now_is, start, unrefused, value_at}
use Rattle.xh_place.proofs.Words.{given_tests}
use Rattle.xh_place.specs.Messages.{Gives}
use Rattle.xh_place.proofs.Drained.{sent_from}
use Rattle.xh_place.proofs.Givens.{fine}
use Rattle.xh_place.proofs.place.Place.give.Goals as goal

pub test_given-requires : goal.test_given-requires
test_given-requires g c =
    let same = c.in_ok-spot.ensures.same in let seat = c.self.inside.seat in let all = c.args.desk.now.records.now in
    let own = subst (λ p. IsSeatOf all p.seat) (sym c.self.view_is) c.requires.own in record {
      own = (ap (λ h. h.table) same.0 ∙ own.0, ap (λ h. h.shape) same.0 ∙ own.1);
      whole = (now_is seat c.test_end.new.seat same.0 c.self.invariant).whole;
    }

pub returns : goal.returns
returns g c =
    let seat = c.self.inside.seat in let mid = c.test_given.new.seat in let list = c.self.inside.list.items in let state = c.self.inside.state in let new = c.send.new.self in
    let given = c.args.blocks.now in
    let same = acts_again seat c.test_end.new.seat mid c.in_ok-spot.ensures.same c.in_ok-test_given.ensures.same in
    let tests : Tests = start state ++ end_tests (found seat c.args.e) ++ given_tests (λ r. is_some (value_at r seat.lots)) c.args.e given in
    let passed : first_refusal tests ≡ None = search rules in record {
      given = subst (λ z. Gives z.state c.args.e c.args.tag given z new c.send.result) c.self.view_is
          (unrefused tests c.send.result _ _ passed (sent_from c.args.e seat mid list state new same c.args.tag given c.send.result c.send.ensures.sent));
    }

pub send-requires-clause-given : goal.send-requires-clause-given
send-requires-clause-given g c = (fine c.test_end.new.seat.lots c.args.e c.args.blocks.now c.in_ok-test_given.ensures.tested.0).0

pub send-requires-clause-held : goal.send-requires-clause-held
send-requires-clause-held g c = λ r a. let t = (fine c.test_end.new.seat.lots c.args.e c.args.blocks.now c.in_ok-test_given.ensures.tested.0).1 r a in
    (t.0, ap (λ h. value_at r h.lots) c.in_ok-test_given.ensures.same.0 ∙ t.1)

pub returns-in_err-test_given : goal.returns-in_err-test_given
returns-in_err-test_given g c =
    let seat = c.self.inside.seat in let mid = c.test_given.new.seat in let list = c.self.inside.list.items in let state = c.self.inside.state in let given = c.args.blocks.now in
    let u = c.in_err-test_given.field-0.0 in
    let same = acts_again seat c.test_end.new.seat mid c.in_ok-spot.ensures.same c.in_err-test_given.ensures.same in
    let told : first_refusal (given_tests (λ r. is_some (value_at r seat.lots)) c.args.e given) ≡ Some u =
    subst (λ (h : Held Body). first_refusal (given_tests (λ r. is_some (value_at r h.lots)) c.args.e given) ≡ Some u) c.in_ok-spot.ensures.same.0 c.in_err-test_given.ensures.tested in
    let first : first_refusal (start state ++ end_tests (found seat c.args.e) ++ given_tests (λ r. is_some (value_at r seat.lots)) c.args.e given) ≡ Some u = search rules in record {
      given = subst (λ z. Gives z.state c.args.e c.args.tag given z (record { seat = mid; list = list; state = state }) c.from_residual-in_err-test_given.result) c.self.view_is
          (rw first (search rules, becomes seat mid _ _ same refl refl));
    }
