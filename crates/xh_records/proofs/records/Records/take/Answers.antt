use Rattle.xh_records.proofs.Common.{rules, ◌≡◌, ℕ, ◌<◌, length, refl, sym, ap, ◌∙◌, subst, [], ◌∷◌, ◌++◌, number_of, holder_of, taking, adds}
use Rattle.xh_records.proofs.Common.{numbered, place_of}
use Rattle.xh_records.proofs.Deeds.{own_deed}
use Rattle.xh_records.proofs.Keeps.{taking_is}
use Rattle.xh_records.proofs.Seating.{not_among, has_room, gains, seat_is}
use Rattle.xh_records.proofs.Numbered.{numbered_push, gained_by, lot_back, fresh, held_as, held_last, held_seen}
use Rattle.xh_records.proofs.Lent.{Spot, spot_of}
use Rattle.xh_records.proofs.records.Records.take.Given.{Over}
use Rattle.xh_records.proofs.records.Records.take.Goals.{After-take_slot}
use Rattle.xh_records.proofs.records.Records.take.Goals as goal

module _ (g : Over) (c : After-take_slot g) where
  spot : Spot c.args.seat.now c.seat.inside.token.me c.slot_of-slot.result c.args.number
  spot = spot_of _ _ _ _ _ c.seat.view_is c.args.self.now _ _ c.requires.own c.requires.exists c.slot_of-slot.ensures.index

  inside : c.slot_of-slot.result < c.seat.inside.token.table_id.slots
  inside = subst (λ z. c.slot_of-slot.result < z.slots) (sym (ap (λ h. h.table) c.seat.view_is ∙ c.requires.own.0)) c.slot_of-slot.ensures.inside.1

pub push_reserved-requires : goal.push_reserved-requires
push_reserved-requires g c =
    let slot : ℕ = c.slot_of-slot.result in
    let t = c.in-Ok.ensures.taken in
    let within = inside g (goal.at.push_reserved-requires g c).After-take_slot in
    let room : length c.seat.inside.order.items < c.seat.inside.order.capacity = has_room _ _ _ _ _ slot c.seat.invariant within t.6 in
    search rules

pub invariant_of-seat : goal.invariant_of-seat
invariant_of-seat g c =
    let slot : ℕ = c.slot_of-slot.result in
    let t = c.in-Ok.ensures.taken in
    let within = inside g (goal.at.invariant_of-seat g c).After-take_slot in
    seat_is _ _ _ _ _ _ _ _ _ _ refl c.push_reserved.ensures.items c.push_reserved.ensures.capacity (ap (λ z. z.slots) c.take_slot.ensures.same.0) t.2
    (gains _ _ _ _ _ slot t.0 (holder_of c.args.from) t.1 c.seat.invariant within t.4 t.6)

pub returns-in-Ok-clause-taken : goal.returns-in-Ok-clause-taken
returns-in-Ok-clause-taken g c =
    let slot : ℕ = c.slot_of-slot.result in
    let x = c.args.seat.now in let me = c.seat.inside.token.me in
    let t = c.in-Ok.ensures.taken in
    let here = spot g (goal.at.returns-in-Ok-clause-taken g c).After-take_slot in
    let h = holder_of c.args.from in
    let number : number_of me.0.shape.records slot ≡ c.args.number = here.number in
    let e = taking x.process c.args.number h in
    let who = ap (λ z. z.process) c.seat.view_is in
    let fronts : c.take_slot.new.token.me.0.fronts ≡ adds (t.1 ++ (e, t.0) ∷ []) me.0.fronts = ap (λ m. m.0.fronts) t.2 ∙ (λ i. adds (t.1 ++ (taking (who i) (number i) h, t.0) ∷ []) me.0.fronts) in
    gained_by x _ x.process c.args.number h _ t.0 (lot_back x _ _ _ me c.seat.view_is slot c.args.number t.0 here.at here.below t.4) t.5
    (held_as x _ _ _ me c.seat.view_is _ _ _ c.seat.invariant _ _ c.take_slot.new.token.me _ t.1 ((e, t.0) ∷ []) c.take_slot.ensures.same.0 c.take_slot.ensures.same.1 (ap (λ m. m.0.shape) t.2)
    (ap (λ m. numbered m.0.shape.records m.1) t.2 ∙ numbered_push me.0.shape.records me.1 slot t.0 ∙ (λ i. (c.seat.view_is i).lots ++ (number i, t.0) ∷ []))
    fronts t.3 (own_deed (place_of x.process) (e, t.0)
    (ap place_of (taking_is x.process c.args.number h c.requires.away).3)))
    (held_last x _ _ _ me c.seat.view_is _ _ _ c.seat.invariant c.take_slot.new.token.me t.1 (e, t.0) fronts)

pub returns-in-Ok-clause-fresh : goal.returns-in-Ok-clause-fresh
returns-in-Ok-clause-fresh g c =
    let slot : ℕ = c.slot_of-slot.result in
    let x = c.args.seat.now in let me = c.seat.inside.token.me in
    let t = c.in-Ok.ensures.taken in
    let at = (spot g (goal.at.returns-in-Ok-clause-fresh g c).After-take_slot).at in
    fresh x _ _ _ me c.seat.view_is _ _ _ c.seat.invariant slot c.args.number at (not_among _ _ _ _ me slot c.seat.invariant t.6)

pub returns-in-Err-clause-missed : goal.returns-in-Err-clause-missed
returns-in-Err-clause-missed g c =
    let same = c.take_slot.ensures.same in let m = c.in-Err.ensures.missed in (
      m.0,
      held_seen c.args.seat.now _ _ _ c.seat.inside.token.me c.seat.view_is _ _ _ c.seat.invariant _ _ _ _ c.args.number c.in-Err.word same.0 same.1
          (spot g (goal.at.returns-in-Err-clause-missed g c).After-take_slot).at (spot g (goal.at.returns-in-Err-clause-missed g c).After-take_slot).below m.1,
    )
