use Rattle.xh_records.proofs.Common.{arith, nat_tests, ◌≡◌, refl, ap, Some, CalledAtMut, in_slot}
use Rattle.xh_records.proofs.Seating.{seat_is}
use Rattle.xh_records.proofs.Lent.{Lent, lends, spot_of, kept, after_one, listed_as}
use Rattle.xh_records.proofs.records.Records.with_lot.Given.{Over}
use Rattle.xh_records.proofs.records.Records.with_lot.Goals.{After-as_slice, After-call_in}
use Rattle.xh_records.proofs.records.Records.with_lot.Goals as goal

-- where the lot is
lent : (g : Over) (c : After-as_slice g) → Lent c.args.seat.now _ _ _ c.seat.inside.token.me c.seat.view_is _ _ _ c.seat.invariant c.slot_of-slot.result c.args.number c.requires.held.0
lent g c = lends _ _ _ _ _ _ _ _ _ _ _ _ _ (spot_of _ _ _ _ _ c.seat.view_is c.args.self.now _ _ c.requires.own c.requires.exists c.slot_of-slot.ensures.index) c.requires.held.1

-- the call was at the lot that the seat has
called : (g : Over) (c : After-call_in g) → in_slot c.slot_of-slot.result c.seat.inside.token.me.1 ≡ Some c.requires.held.0
    → CalledAtMut g.F.FnMut c.args.f.now c.requires.held.0 c.call_in.result c.call_in.new.f c.call_in.ensures.called.1
called g c has = grind (arith, nat_tests)

pub call_in-requires-clause-listed : goal.call_in-requires-clause-listed
call_in-requires-clause-listed g c =
    listed_as _ _ c.seat.inside.token.me.1 c.slot_of-slot.result c.as_slice.ensures (lent g (goal.at.call_in-requires-clause-listed g c).After-as_slice).reach.listed

pub call_in-requires-clause-lot : goal.call_in-requires-clause-lot
call_in-requires-clause-lot g c = (c.requires.held.0, (lent g (goal.at.call_in-requires-clause-lot g c).After-as_slice).reach.has, c.requires.held.2)

pub invariant_of-seat : goal.invariant_of-seat
invariant_of-seat g c =
    let at = goal.at.invariant_of-seat g c in
    let e = c.call_in.ensures in let l = lent g at.After-as_slice in
    seat_is _ _ _ _ _ _ _ _ _ _ refl refl refl (ap (λ z. z.slots) e.token.0) e.called.4
    (kept _ _ _ _ _ c.seat.view_is _ _ _ c.seat.invariant _ _ _ _ l (c.requires.held.3 _ _ _ (called g at.After-call_in l.reach.has)))

pub returns : goal.returns
returns g c =
    let at = goal.at.returns g c in
    let e = c.call_in.ensures in let l = lent g at.After-as_slice in (
      c.requires.held.0,
      e.called.1,
      c.requires.held.1,
      called g at.After-call_in l.reach.has,
      after_one _ _ _ _ _ c.seat.view_is _ _ _ c.seat.invariant _ _ c.call_in.new.token.me _ _ _ _ l e.token.0 e.token.1 e.called.4,
    )
