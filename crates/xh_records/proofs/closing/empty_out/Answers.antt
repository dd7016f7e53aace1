use Rattle.xh_records.proofs.Common.{nat_tests, rules, arith, ◌≡◌, ℕ, ◌+◌, ◌<◌, List, length, get_or, refl, sym, ap, ◌∙◌, subst, [], ◌∷◌, ◌++◌, append_assoc, append-nil, length-append, Option}
use Rattle.xh_records.proofs.Common.{None, vec_len, rest, turned, LotOf, Among, Distinct, keys, distinct_split, keys_append, lot_in, indices, AllLots}
use Rattle.xh_records.proofs.Common.{ℕ}
use Rattle.xh_records.proofs.Cuts.{hands_over}
use Rattle.xh_records.proofs.Lists.{next_slot, all_front, fills, first_is, below_at}
use Rattle.xh_records.proofs.Seating.{lot_here, all_full}
use Rattle.xh_records.proofs.Numbered.{indices_are, lot_numbered, views_are}
use Rattle.xh_records.proofs.closing.empty_out.Given.{Over}
use Rattle.xh_records.proofs.closing.empty_out.Goals.{After-from-slot}
use Rattle.xh_records.proofs.closing.empty_out.Goals as goal

pub loop-k-init : goal.loop-k-init
loop-k-init g c = (
  [],
  c.seat.inside.token.me.1,
  [],
  record {
    split = refl;
    done = refl;
    left = sym
        (append-nil c.seat.inside.token.me.1);
    view = refl;
    table = refl;
    long = refl;
    lots = λ r h. refl;
  },
)

-- the seat's next slot, and what it has there
module _ (g : Over) (c : After-from-slot g) where
  order_is : c.seat.inside.order.items ≡ keys (c.loop-k.invariant.0 ++ c.loop-k.invariant.1)
  order_is = c.seat.invariant.ordered ∙ ap keys c.loop-k.invariant.3.split

  next : (x : Option (LotOf g.row.B.Denot)) × (more : List (ℕ × Option (LotOf g.row.B.Denot))) × (c.loop-k.invariant.1 ≡ (c.from-slot.result, x) ∷ more)
  next =
      let front = c.loop-k.invariant.0 in let back = c.loop-k.invariant.1 in
      let slot : ℕ = c.from-slot.result in
      let below : c.loop-k.k < c.len-k-end.result = c.loop-k-test.true in
      let done : length front ≡ c.loop-k.k = c.loop-k.invariant.3.done in
      let size : length c.seat.inside.order.items ≡ length (keys (front ++ back)) = ap length order_is in
      next_slot front back slot (omega arith)
      (c.from-slot.ensures ∙ ap (λ z. get_or z c.loop-k.k 0) c.as_slice.ensures ∙ (λ j. get_or (order_is j) (sym done j) 0))

  here : c.loop-k.token.me.1 ≡ (c.from-slot.result, next.0) ∷ (next.1 ++ c.loop-k.invariant.2)
  here = c.loop-k.invariant.3.left ∙ ap (λ z. z ++ c.loop-k.invariant.2) next.2

  all : c.seat.inside.order.items ≡ keys c.loop-k.invariant.0 ++ c.from-slot.result ∷ keys next.1
  all = order_is ∙ ap (λ z. keys (c.loop-k.invariant.0 ++ z)) next.2 ∙ keys_append c.loop-k.invariant.0 ((c.from-slot.result, next.0) ∷ next.1)

  inside : c.from-slot.result < vec_len c.loop-k.held
  inside = grind (arith, nat_tests, below_at, next, all)

pub exchange-lot-requires : goal.exchange-lot-requires
exchange-lot-requires g c =
    let s = (goal.at.exchange-lot-requires g c).After-from-slot in let lot = (next g s).0 in
    (c.loop-k.invariant.3.table ∙ ap (λ h. h.table) c.seat.view_is ∙ c.requires.own.0, (lot, here g s ∙ ap (λ z. (c.from-slot.result, lot) ∷ z) (ap rest (sym (here g s)))))

pub index_mut-requires : goal.index_mut-requires
index_mut-requires g c = inside g (goal.at.index_mut-requires g c).After-from-slot

pub loop-k-preserved : goal.loop-k-preserved
loop-k-preserved g c =
    let s = (goal.at.loop-k-preserved g c).After-from-slot in
    let front = c.loop-k.invariant.0 in let junk = c.loop-k.invariant.2 in let f = c.loop-k.invariant.3 in
    let slot : ℕ = c.from-slot.result in let one = next g s in
    let fits : slot < vec_len c.loop-k.held = inside g s in
    let d = distinct_split (keys front) slot (keys one.1) (subst Distinct (all g s) c.seat.invariant.distinct) in
    let lot = lot_here c.seat.inside.token.me.0.shape front (slot, one.0) one.1 (subst (AllLots c.seat.inside.token.me.0.shape) (f.split ∙ ap (λ z. front ++ z) one.2) c.seat.invariant.lots) in
    let got = first_is slot _ _ _ _ _ c.exchange-lot.ensures.2 (here g s) in (
      front ++ (slot, one.0) ∷ [],
      one.1,
      junk ++ (slot, None) ∷ [],
      record {
        split = f.split ∙ ap (λ z. front ++ z) one.2 ∙ sym (append_assoc front ((slot, one.0) ∷ []) one.1);
        done = length-append front ((slot, one.0) ∷ []) ∙ ap (λ n. n + 1) f.done;
        left = ap (λ m. m.1) c.turn.ensures.2 ∙ ap (λ m. turned m.1) c.exchange-lot.ensures.3 ∙ ap (λ z. rest z ++ (slot, None) ∷ []) (here g s) ∙ append_assoc one.1 junk ((slot, None) ∷ []);
        view = ap (λ m. m.0) c.turn.ensures.2 ∙ ap (λ m. m.0) c.exchange-lot.ensures.3 ∙ f.view;
        table = c.turn.ensures.0 ∙ c.exchange-lot.ensures.0 ∙ f.table;
        long = f.long;
        lots = fills front slot one.0 c.exchange-lot.result lot.0 c.loop-k.held.items c.args.held.now.items _ d.0 lot.1 got (let e : slot < length c.loop-k.held.items = search rules in e) f.lots;
      },
    )

-- what the seat has at an index
pub returns-clause-lots : goal.returns-clause-lots
returns-clause-lots g c = grind (arith, nat_tests, inside, all, all_front, lot_numbered)

pub returns-clause-full : goal.returns-clause-full
returns-clause-full g c = λ k h.
    let me = c.seat.inside.token.me in let seat = c.seat.invariant in
    let there : Among (keys me.1) k = subst (λ z. Among z k) (ap (λ x. indices x) (sym c.seat.view_is) ∙ indices_are me.0.shape seat.small me.1 seat.lots) h in
    let t = all_full me.0.shape me.1 seat.lots k there in
    (t.0, ap (λ x. lot_in k x) (sym c.seat.view_is) ∙ lot_numbered me.0.shape seat.small me.1 k seat.lots ∙ t.1)

pub split_seat-requires : goal.split_seat-requires
split_seat-requires g c = grind (arith, nat_tests, hands_over)

pub returns-clause-token : goal.returns-clause-token
returns-clause-token g c =
    let f = c.loop-k.invariant.3 in
    let all = c.split_seat.ensures.4 ∙ ap (λ z. (z, [])) f.view in
    let same = sym (views_are c.args.seat _ _ _ c.seat.inside.token.me c.seat.view_is _ _ _ c.seat.invariant) in
    (c.split_seat.ensures.3 ∙ f.table ∙ ap (λ h. h.table) c.seat.view_is, all ∙ (λ i. (same i, [])))
