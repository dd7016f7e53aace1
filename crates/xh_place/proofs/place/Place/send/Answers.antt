use Rattle.xh_place.proofs.Common.{EndpointPuts, is_long, becomes, rules, arith, Acts, Among, ◌≡◌, ◌+◌, ◌++◌, ◌-◌, ◌≤◌, ◌==◌, ◌∙◌, ℕ, refl, sym, ap, subst, IsBlock, IsPlace, LotOf, Body, OnErr}
use Rattle.xh_place.proofs.Common.{Some, is_running, item_of, lens, less_all, list_any, now_as, now_is, on_err_weaker, option_map}
use Rattle.xh_place.proofs.Common.{over_running, total_bound, value_at}
use Rattle.xh_place.proofs.Words.{accepted_on, away, content_of, item_in, passed_on, shown}
use Rattle.xh_place.proofs.Seeing.{fetched}
use Rattle.xh_place.proofs.Settled.{answered, passed_below, settled}
use Rattle.xh_place.specs.Bodies.{endpoint}
use Rattle.xh_place.specs.Endpoints.{AreFetched}
use Rattle.xh_place.specs.Messages.{IsSent}
use Rattle.xh_place.specs.Seen.{IsSeenAfter}
use Rattle.xh_place.proofs.place.Place.send.Goals.{After-settle, Start}
use Rattle.xh_place.proofs.place.Place.send.Goals as goal

-- where the place is once the list is settled
went : (g : _) (c : After-settle g) → IsPlace c.give_all-put.new.seat.shape c.give_all-put.new.seat.lots c.settle.new.list.items c.settle.new.list.capacity
    (c.self.inside.total - c.give_all-put.result.lost + c.give_all-put.result.gained) c.self.inside.state
went g c =
    let seat = c.self.inside.seat in let last = c.give_all-put.new.seat in let given = c.args.given.now in let a = c.give_all-put.ensures in let total : ℕ = c.self.inside.total in
    let lost : ℕ = c.give_all-put.result.lost in let gained : ℕ = c.give_all-put.result.gained in
    let held : (r : ℕ) → Among given r → (l : LotOf Body) × (value_at r seat.lots ≡ Some l) =
    λ r b. let k = c.requires.held r b in (k.0, ap (λ p. value_at r p.seat.lots) c.self.view_is ∙ k.1) in
    let at = ap (λ p. value_at c.args.e p.seat.lots) c.self.view_is ∙ c.requires.end.1 in let end = a.end c.requires.end.0 at in
    let alive = over_running c.self.inside.state (ap (λ p. is_running p.state) c.self.view_is ∙ ap is_running c.requires.running) in
    let sums : total - lost + gained + lens given (λ r. value_at r seat.lots) ≡ total + lens given (λ r. value_at r last.lots) =
    omega (arith, a.lost, a.gained, passed_below c.self.invariant given c.requires.given.0 held) in
    now_as (now_is seat last a.moved.0 (settled c.self.invariant given c.requires.given.0 held last.lots (λ r. list_any (λ q. q == r) c.give_all-put.result.back.items) a.back.here
    (λ r l b h. subst (λ s. IsBlock s r l) (ap (λ h. h.shape) a.moved.0) (a.back.good r l b h)) c.args.e at end.1 end.3 (ap (λ z. z.len) end.2.becomes) a.others alive sums))
    (c.settle.ensures.items ∙ (λ i. less_all given (λ r. list_any (λ q. q == r) (c.as_slice.ensures.value i)) c.self.inside.list.items)) c.settle.ensures.room refl

pub give_all-put-requires-clause-end : goal.give_all-put-requires-clause-end
give_all-put-requires-clause-end g c =
    let at = ap (λ p. value_at c.args.e p.seat.lots) c.self.view_is ∙ c.requires.end.1 in (c.requires.end.0, at, c.self.invariant.whole c.args.e c.requires.end.0 at, c.requires.end.2)

pub give_all-put-requires-clause-held : goal.give_all-put-requires-clause-held
give_all-put-requires-clause-held g c = λ r b. let k = c.requires.held r b in let at = ap (λ p. value_at r p.seat.lots) c.self.view_is ∙ k.1 in (k.0, at, c.self.invariant.whole r k.0 at)

pub settle-requires : goal.settle-requires
settle-requires g c = c.self.invariant.distinct

pub overflow_sub-self : goal.overflow_sub-self
overflow_sub-self g c = omega (
  arith,
  c.give_all-put.ensures.lost,
  passed_below c.self.invariant c.args.given.now c.requires.given.0
      (λ r b. let k = c.requires.held r b in (k.0, ap (λ p. value_at r p.seat.lots) c.self.view_is ∙ k.1)),
)

pub overflow_add-self : goal.overflow_add-self
overflow_add-self g c = omega (arith, total_bound (went g (goal.at.overflow_add-self g c).After-settle))

pub invariant_of-self : goal.invariant_of-self
invariant_of-self g c = went g (goal.at.invariant_of-self g c).After-settle

pub returns : goal.returns
returns g c =
    let seat = c.self.inside.seat in let last = c.give_all-put.new.seat in let given = c.args.given.now in let a = c.give_all-put.ensures in let back = c.give_all-put.result.back.items in
    let at = ap (λ p. value_at c.args.e p.seat.lots) c.self.view_is ∙ c.requires.end.1 in let end = a.end c.requires.end.0 at in let block = c.self.invariant.whole c.args.e c.requires.end.0 at in
    let d : ℕ = away (item_in (value_at c.args.e seat.lots)).content in
    let way : d ≡ away (content_of c.requires.end.0.body) = ap (λ o. away (item_in o).content) at in
    record {
      sent = subst (λ z. IsSent c.args.e c.args.tag given z (record { seat = last; list = c.settle.new.list.items; state = c.self.inside.state }) c.answer.result) c.self.view_is (record {
        before = c.requires.end.0;
        after = end.0;
        answered = c.give_all-put.result.put;
        back = back;
        held = (at, is_long (EndpointPuts c.args.tag (record { items = given }) c.give_all-put.result.put) block end.2, end.1);
        made = end.2;
        others = a.others;
        moved = becomes seat last _ _
            (subst (λ n. Acts (passed_on seat.process n (shown seat.lots given) ++ accepted_on seat.process n (shown last.lots back)) last.lots seat last) way a.moved)
            (c.settle.ensures.items ∙ (λ i. less_all given (λ r. list_any (λ q. q == r) (c.as_slice.ensures.value i)) c.self.inside.list.items))
            refl;
        seen = subst (λ n. OnErr c.give_all-put.result.put (AreFetched (IsSeenAfter n seat.process seat.shape seat.front last.front) n given (shown last.lots back))) way
            (on_err_weaker c.give_all-put.result.put (λ h. subst (λ rs. AreFetched (IsSeenAfter d seat.process seat.shape seat.front last.front) d rs (shown last.lots back)) h.1
            (fetched (IsSeenAfter d seat.process seat.shape seat.front last.front) d (shown last.lots back) h.0 h.2)) a.seen);
        answer = answered c.give_all-put.result.back c.give_all-put.result.put c.answer.result a.sent c.answer.ensures;
      });
    }
