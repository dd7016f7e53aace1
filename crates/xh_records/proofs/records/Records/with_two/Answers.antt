use Rattle.xh_records.proofs.Common.{arith, nat_tests, ◌≡◌, refl, sym, ap, ◌∙◌, subst, Some, None, CalledAtPairMut, put, put_swap, put_twice}
use Rattle.xh_records.proofs.Ended.{is_some}
use Rattle.xh_records.proofs.Lists.{first_is, slot_other}
use Rattle.xh_records.proofs.Seating.{seat_is}
use Rattle.xh_records.proofs.Lent.{LentBoth, lends_both, spot_of, kept_two, after_two, still_listed, listed_as}
use Rattle.xh_records.proofs.records.Records.with_two.Given.{Over}
use Rattle.xh_records.proofs.records.Records.with_two.Goals.{After-as_slice-order, After-slot_mut, In-Some, After-turn_by, After-swap_slot-2}
use Rattle.xh_records.proofs.records.Records.with_two.Goals as goal

-- where the lots are
both : (g : Over) (c : After-as_slice-order g) → LentBoth c.args.seat.now _ _ _ c.seat.inside.token.me c.seat.view_is _ _ _ c.seat.invariant c.slot_of-i.result c.slot_of-j.result c.args.first
    c.args.second c.requires.held.0 c.requires.held.1
both g c = lends_both _ _ _ _ _ _ _ _ _ _ _ _ _ _ _ _
    (spot_of _ _ _ _ _ c.seat.view_is c.args.self.now _ _ c.requires.own c.requires.exists.0 c.slot_of-i.ensures.index)
    (spot_of _ _ _ _ _ c.seat.view_is c.args.self.now _ _ c.requires.own c.requires.exists.1 c.slot_of-j.ensures.index)
    c.requires.exists.2 c.requires.held.2 c.requires.held.3

-- the first lot lies in its slot, and the second is the one that was taken out
here : (g : Over) (c : After-slot_mut g) → LentBoth c.args.seat.now _ _ _ c.seat.inside.token.me c.seat.view_is _ _ _ c.seat.invariant c.slot_of-i.result c.slot_of-j.result c.args.first
    c.args.second c.requires.held.0 c.requires.held.1 → c.slot_mut.result.now ≡ Some c.requires.held.0
here g c b = grind (arith, nat_tests, first_is, slot_other)

is_left : (g : Over) (c : In-Some g) → c.slot_mut.result.now ≡ Some c.requires.held.0 → c.in-Some.left ≡ c.requires.held.0
is_left g c has = let same : Some c.in-Some.left ≡ Some c.requires.held.0 = sym c.in-Some.is ∙ has in cc

is_also : (g : Over) (c : In-Some g) → LentBoth c.args.seat.now _ _ _ c.seat.inside.token.me c.seat.view_is _ _ _ c.seat.invariant c.slot_of-i.result c.slot_of-j.result c.args.first
    c.args.second c.requires.held.0 c.requires.held.1 → c.unwrap-also.result ≡ c.requires.held.1
is_also g c b = let same : Some c.unwrap-also.result ≡ Some c.requires.held.1 = sym c.unwrap-also.ensures ∙ c.swap_slot.ensures.value ∙ b.two.reach.has in cc

-- the list when the first lot was lent
left_in : (g : Over) (c : After-turn_by g)
    → c.turn_by.new.token.me ≡ (c.seat.inside.token.me.0, put c.slot_of-i.result (Some c.call_at_two-answer.new.x) (put c.slot_of-j.result None c.seat.inside.token.me.1))
left_in g c = grind (arith, nat_tests)

-- what was lent, and the seat afterwards
module _ (g : Over) (c : After-swap_slot-2 g) (b : LentBoth c.args.seat.now _ _ _ c.seat.inside.token.me c.seat.view_is _ _ _ c.seat.invariant c.slot_of-i.result c.slot_of-j.result c.args.first
    c.args.second c.requires.held.0 c.requires.held.1) (left : c.in-Some.left ≡ c.requires.held.0) (also : c.unwrap-also.result ≡ c.requires.held.1)
    (now : c.turn_by.new.token.me ≡ (c.seat.inside.token.me.0, put c.slot_of-i.result (Some c.call_at_two-answer.new.x) (put c.slot_of-j.result None c.seat.inside.token.me.1))) where
  called : CalledAtPairMut g.F.FnMut c.args.f.now c.requires.held.0 c.requires.held.1 c.call_at_two-answer.result c.call_at_two-answer.new.f c.call_at_two-answer.new.x c.call_at_two-answer.new.y
  called =
      subst (λ z. CalledAtPairMut g.F.FnMut c.args.f.now z c.requires.held.1 c.call_at_two-answer.result c.call_at_two-answer.new.f c.call_at_two-answer.new.x c.call_at_two-answer.new.y) left
      (subst (λ z. CalledAtPairMut g.F.FnMut c.args.f.now c.in-Some.left z c.call_at_two-answer.result c.call_at_two-answer.new.f c.call_at_two-answer.new.x c.call_at_two-answer.new.y) also
      c.call_at_two-answer.ensures)

  last : c.swap_slot-2.new.token.me ≡ (
    c.seat.inside.token.me.0,
    put c.slot_of-j.result (Some c.call_at_two-answer.new.y)
        (put c.slot_of-i.result (Some c.call_at_two-answer.new.x) c.seat.inside.token.me.1),
  )
  last =
      let i = c.slot_of-i.result in let j = c.slot_of-j.result in let x = Some c.call_at_two-answer.new.x in let y = Some c.call_at_two-answer.new.y in let l = c.seat.inside.token.me.1 in
      c.swap_slot-2.ensures.token.2 ∙ ap (λ m. (m.0, put j y m.1)) now
      ∙ ap (λ z. (c.seat.inside.token.me.0, z)) (ap (put j y) (put_swap i j x None l b.apart) ∙ put_twice j y None (put i x l))

pub swap_slot-requires-clause-listed : goal.swap_slot-requires-clause-listed
swap_slot-requires-clause-listed g c = listed_as _ _ c.seat.inside.token.me.1 _ c.as_slice-order.ensures
    (both g (goal.at.swap_slot-requires-clause-listed g c).After-as_slice-order).two.reach.listed

pub unwrap-also-requires : goal.unwrap-also-requires
unwrap-also-requires g c = is_some _ c.requires.held.1 (c.swap_slot.ensures.value ∙ (both g (goal.at.unwrap-also-requires g c).After-as_slice-order).two.reach.has)

pub turn_to-k-requires : goal.turn_to-k-requires
turn_to-k-requires g c = listed_as _ _ c.swap_slot.new.token.me.1 _ c.as_slice-order.ensures
    (still_listed _ _ _ None _ _ (both g (goal.at.turn_to-k-requires g c).After-as_slice-order).one.reach.listed (ap (λ m. m.1) c.swap_slot.ensures.token.2))

pub unreachable-requires : goal.unreachable-requires
unreachable-requires g c =
    let at = goal.at.unreachable-requires g c in
    let none : None ≡ Some c.requires.held.0 = sym c.in_default.is ∙ here g at.After-slot_mut (both g at.After-as_slice-order) in absurd (cc)

pub call_at_two-answer-requires : goal.call_at_two-answer-requires
call_at_two-answer-requires g c =
    let at = goal.at.call_at_two-answer-requires g c in let b = both g at.After-as_slice-order in
    λ lender other ep eq. c.requires.held.4 lender other (ep ∙ is_left g at.In-Some (here g at.After-slot_mut b)) (eq ∙ is_also g at.In-Some b)

pub swap_slot-requires-2-clause-listed : goal.swap_slot-requires-2-clause-listed
swap_slot-requires-2-clause-listed g c =
    let at = goal.at.swap_slot-requires-2-clause-listed g c in
    let j = c.slot_of-j.result in let b = both g at.After-as_slice-order in
    listed_as _ _ c.turn_by.new.token.me.1 _ c.as_slice-order.ensures
    (still_listed _ c.slot_of-i.result j _ _ _ (still_listed _ j j None _ _ b.two.reach.listed refl) (ap (λ m. m.1) (left_in g at.After-turn_by)))

pub invariant_of-seat : goal.invariant_of-seat
invariant_of-seat g c =
    let at = goal.at.invariant_of-seat g c in let s = at.After-swap_slot-2 in let b = both g at.After-as_slice-order in
    let left = is_left g at.In-Some (here g at.After-slot_mut b) in let also = is_also g at.In-Some b in let now = left_in g at.After-turn_by in
    let good = c.requires.held.5 _ _ _ _ (called g s b left also now) in
    seat_is _ _ _ _ _ _ _ _ _ _ refl refl refl (ap (λ z. z.slots) (c.swap_slot-2.ensures.token.0 ∙ c.turn_by.ensures.0 ∙ c.turn_to-k.ensures.same.0
    ∙ c.swap_slot.ensures.token.0)) (last g s b left also now)
    (kept_two _ _ _ _ _ c.seat.view_is _ _ _ c.seat.invariant _ _ _ _ _ _ _ _ b.one b.two good.0 good.1)

pub returns : goal.returns
returns g c =
    let at = goal.at.returns g c in let s = at.After-swap_slot-2 in let b = both g at.After-as_slice-order in
    let left = is_left g at.In-Some (here g at.After-slot_mut b) in let also = is_also g at.In-Some b in let now = left_in g at.After-turn_by in
    let good = c.requires.held.5 _ _ _ _ (called g s b left also now) in
    let table = c.swap_slot-2.ensures.token.0 ∙ c.turn_by.ensures.0 ∙ c.turn_to-k.ensures.same.0 ∙ c.swap_slot.ensures.token.0 in
    let id = c.swap_slot-2.ensures.token.1 ∙ c.turn_by.ensures.1 ∙ c.turn_to-k.ensures.same.1 ∙ c.swap_slot.ensures.token.1 in (
      c.requires.held.0,
      c.requires.held.1,
      c.call_at_two-answer.new.x,
      c.call_at_two-answer.new.y,
      c.requires.held.2,
      c.requires.held.3,
      called g s b left also now,
      after_two _ _ _ _ _ c.seat.view_is _ _ _ c.seat.invariant _ _ c.swap_slot-2.new.token.me _ _ _ _ _ _ _ _ b.one b.two good.0 table id (last g s b left also now),
    )
