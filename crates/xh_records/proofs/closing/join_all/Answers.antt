use Rattle.xh_records.proofs.Common.{rules, arith, ◌≡◌, ℕ, suc, ◌<◌, length, inl, refl, sym, ap, ◌∙◌, subst, [], ◌∷◌, ◌++◌, append_assoc, length-append, vec_len, some, get_elem?, at_last}
use Rattle.xh_records.proofs.Common.{at_longer, among_front, Sits, view_of, spent, joined, IsGathered}
use Rattle.xh_records.proofs.Ended.{gathers, gathers_none}
use Rattle.xh_records.proofs.closing.join_all.Given.{Over}
use Rattle.xh_records.proofs.closing.join_all.Goals.{In-Some, In-Some-pop}
use Rattle.xh_records.proofs.closing.join_all.Goals as goal

-- where the last seat stands, and each seat after it
last_at : (g : Over) (c : In-Some g) → get_elem? c.args.seats.items (length c.pop.new.self.items) ≡ some c.in-Some.last
last_at g c = subst (λ z. get_elem? z (length c.pop.new.self.items) ≡ some c.in-Some.last) (sym c.in-Some.ensures.items)
    (at_last c.pop.new.self.items c.in-Some.last (length c.pop.new.self.items) refl)

module _ (g : Over) (c : In-Some-pop g) where
  split : c.args.seats.items ≡ (c.pop-in-loop-seat.new.self.items ++ c.in-Some-pop.seat ∷ []) ++ c.loop-seat.invariant.0
  split = c.loop-seat.invariant.2.split ∙ ap (λ z. z ++ c.loop-seat.invariant.0) c.in-Some-pop.ensures.items

  seat_at : get_elem? c.args.seats.items (length c.pop-in-loop-seat.new.self.items) ≡ some c.in-Some-pop.seat
  seat_at =
      let m = length c.pop-in-loop-seat.new.self.items in
      subst (λ z. get_elem? z m ≡ some c.in-Some-pop.seat) (sym split) (at_longer (c.pop-in-loop-seat.new.self.items ++ c.in-Some-pop.seat ∷ []) c.loop-seat.invariant.0 m c.in-Some-pop.seat
      (at_last c.pop-in-loop-seat.new.self.items c.in-Some-pop.seat m refl))

pub empty_out-token-requires-clause-own : goal.empty_out-token-requires-clause-own
empty_out-token-requires-clause-own g c = (c.requires.own _ c.in-Some.last (last_at g (goal.at.empty_out-token-requires-clause-own g c).In-Some), c.requires.some_seat.1)

pub loop-seat-init : goal.loop-seat-init
loop-seat-init g c =
    let m : ℕ = length c.pop.new.self.items in
    let last = c.in-Some.last in
    let at = last_at g (goal.at.loop-seat-init g c).In-Some in
    let e = c.empty_out-token.ensures in
    let size : length c.args.seats.items ≡ suc m = (let z = ap length c.in-Some.ensures.items ∙ length-append c.pop.new.self.items (last ∷ []) in omega arith) in (
      last ∷ [],
      last.process,
      record {
        split = c.in-Some.ensures.items;
        placed = subst (λ v. Sits v last.process) (sym (ap (λ k. k.0) e.token.1)) (inl refl);
        table = e.token.0 ∙ c.requires.own m last at;
        bare = ap (λ k. k.1) e.token.1;
        gathered = gathers m c.args.seats.items last spent c.empty_out-token.result.me.0 c.args.held.now.items c.empty_out-token.new.held.items at
            (gathers_none c.args.seats.items (suc m) c.args.held.now.items size (λ r h. c.requires.none r (let k : r < vec_len c.args.held.now = search rules in k)))
            (ap (λ k. k.0.processes) e.token.1) (ap (λ k. k.0.records) e.token.1) (ap (λ k. k.0.fronts) e.token.1)
            (let k : length c.empty_out-token.new.held.items ≡ length c.args.held.now.items = search rules in k) e.full
            (λ r h. e.lots r (let k : r < vec_len c.args.held.now = search rules in k));
        long = e.long;
      },
    )

pub empty_out-other-requires-clause-own : goal.empty_out-other-requires-clause-own
empty_out-other-requires-clause-own g c = (c.requires.own _ c.in-Some-pop.seat (seat_at g (goal.at.empty_out-other-requires-clause-own g c).In-Some-pop), c.requires.some_seat.1)

pub join-requires-clause-own : goal.join-requires-clause-own
join-requires-clause-own g c = (
  c.loop-seat.invariant.2.table,
  c.empty_out-other.ensures.token.0 ∙ c.requires.own _ c.in-Some-pop.seat (seat_at g (goal.at.join-requires-clause-own g c).In-Some-pop),
  c.requires.some_seat.1,
)

pub loop-seat-preserved : goal.loop-seat-preserved
loop-seat-preserved g c =
    let i = c.loop-seat.invariant in let f = i.2 in
    let m : ℕ = length c.pop-in-loop-seat.new.self.items in
    let seat = c.in-Some-pop.seat in
    let s = (goal.at.loop-seat-preserved g c).In-Some-pop in let all = split g s in let at = seat_at g s in
    let e = c.empty_out-other.ensures in
    let j = c.join.ensures.token in
    let v = c.loop-seat.token.me.0 in
    let joined_is : c.join.new.token.me.0 ≡ joined v (view_of seat) = ap (λ k. k.0) j.2 ∙ ap (λ k. joined v k.0) e.token.1 in
    let size : length c.loop-seat.seats.items ≡ suc m = (let z = ap length c.in-Some-pop.ensures.items ∙ length-append c.pop-in-loop-seat.new.self.items (seat ∷ []) in omega arith) in (
      seat ∷ i.0,
      i.1,
      record {
        split = all ∙ append_assoc c.pop-in-loop-seat.new.self.items (seat ∷ []) i.0;
        placed = subst (λ z. Sits z i.1) (sym joined_is) (among_front v.processes (seat.process ∷ []) i.1 f.placed);
        table = j.0 ∙ f.table;
        bare = ap (λ k. k.1) j.2 ∙ f.bare;
        gathered = gathers m c.args.seats.items seat v c.join.new.token.me.0 c.loop-seat.held.items c.empty_out-other.new.held.items at
            (subst (λ n. IsGathered n c.args.seats.items v c.loop-seat.held.items) size f.gathered)
            (ap (λ k. k.processes) joined_is) (ap (λ k. k.records) joined_is) (ap (λ k. k.fronts) joined_is)
            (let k : length c.empty_out-other.new.held.items ≡ length c.loop-seat.held.items = search rules in k) e.full
            (λ r h. e.lots r (let k : r < vec_len c.loop-seat.held = search rules in k));
        long = e.long ∙ f.long;
      },
    )
