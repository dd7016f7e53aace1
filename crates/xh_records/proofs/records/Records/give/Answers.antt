use Rattle.xh_records.proofs.Common.{rules, ◌≡◌, ℕ, ◌<◌, List, [], ◌∷◌, ◌++◌, get_or, length, refl, ap, ◌∙◌, subst, Option, get_elem?, some, number_of, without, place_of, holder_of, giving}
use Rattle.xh_records.proofs.Common.{Deed, Some, in_slot, adds, sym, lost, numbered, Holder, Me, LotOf, View}
use Rattle.xh_records.specs.inner.Steps.{process_in}
use Rattle.xh_records.proofs.Deeds.{own_deed}
use Rattle.xh_records.proofs.Keeps.{giving_is}
use Rattle.xh_records.proofs.Elements.{in_range}
use Rattle.xh_records.proofs.Seating.{loses, is_alone, seat_is}
use Rattle.xh_records.proofs.Numbered.{without_numbered, lost_by, held_as, held_last}
use Rattle.xh_records.proofs.Lent.{Lent, lends, listed_as, spot_of}
use Rattle.xh_records.proofs.records.Records.give.Given.{Over}
use Rattle.xh_records.proofs.records.Records.give.Goals.{After-as_slice, After-give_slot-k}
use Rattle.xh_records.proofs.records.Records.give.Goals as goal

abbrev Is : {B : Type 0} → Me (Option (LotOf B)) (View B) → Me (Option (LotOf B)) (View B) → Type 0
Is x y = x ≡ y

-- the process of a seat's view is the seat's
who : {B : Type 0} {p : ℕ} (me : Me (Option (LotOf B)) (View B)) (slot : ℕ) (h : Option Holder) (l : LotOf B) (others : List (Deed B)) → me.0.processes ≡ p ∷ []
    → Is (lost me.0 slot (process_in me.0) h l others, without slot me.1) (lost me.0 slot p h l others, without slot me.1)
who me slot h l others mine = ap (λ z. (lost me.0 slot (get_or z 0 0) h l others, without slot me.1)) mine

-- where the lot is, and where its slot stands
lent : (g : Over) (c : After-as_slice g) → Lent c.args.seat.now _ _ _ c.seat.inside.token.me c.seat.view_is _ _ _ c.seat.invariant c.slot_of-slot.result c.args.number c.requires.held.0
lent g c = lends _ _ _ _ _ _ _ _ _ _ _ _ _ (spot_of _ _ _ _ _ c.seat.view_is c.args.self.now _ _ c.requires.own c.requires.exists c.slot_of-slot.ensures.index) c.requires.held.1

place : (g : Over) (c : After-give_slot-k g) → get_elem? c.seat.inside.order.items c.give_slot-k.result.0 ≡ some c.slot_of-slot.result
place g c = subst (λ z. get_elem? z c.give_slot-k.result.0 ≡ some c.slot_of-slot.result) c.as_slice.ensures c.give_slot-k.ensures.place

pub give_slot-k-requires-clause-listed : goal.give_slot-k-requires-clause-listed
give_slot-k-requires-clause-listed g c =
    listed_as _ _ c.seat.inside.token.me.1 _ c.as_slice.ensures (lent g (goal.at.give_slot-k-requires-clause-listed g c).After-as_slice).reach.listed

pub give_slot-k-requires-clause-lot : goal.give_slot-k-requires-clause-lot
give_slot-k-requires-clause-lot g c =
    let h = c.requires.held in let reach = (lent g (goal.at.give_slot-k-requires-clause-lot g c).After-as_slice).reach in (h.0, reach.has, reach.lot, h.2)

pub give_slot-k-requires-clause-owned : goal.give_slot-k-requires-clause-owned
give_slot-k-requires-clause-owned g c =
    (c.seat.inside.process, is_alone _ _ _ _ _ c.seat.invariant, (lent g (goal.at.give_slot-k-requires-clause-owned g c).After-as_slice).reach.owns)

pub remove-requires : goal.remove-requires
remove-requires g c =
    let inside : c.give_slot-k.result.0 < length c.seat.inside.order.items = in_range c.seat.inside.order.items c.give_slot-k.result.0 c.slot_of-slot.result
    (place g (goal.at.remove-requires g c).After-give_slot-k) in
    search rules

-- the seat's view and list afterwards
now : (g : Over) (c : After-give_slot-k g) → in_slot c.slot_of-slot.result c.seat.inside.token.me.1 ≡ Some c.requires.held.0 → Is c.give_slot-k.new.token.me (
  lost c.seat.inside.token.me.0 c.slot_of-slot.result c.seat.inside.process (holder_of c.args.to) c.requires.held.0 c.give_slot-k.ensures.given.0,
  without c.slot_of-slot.result c.seat.inside.token.me.1,
)
now g c has = c.give_slot-k.ensures.given.2 c.requires.held.0 has
    ∙ who c.seat.inside.token.me c.slot_of-slot.result (holder_of c.args.to) c.requires.held.0 c.give_slot-k.ensures.given.0 c.seat.invariant.processes

pub invariant_of-seat : goal.invariant_of-seat
invariant_of-seat g c =
    let at = (goal.at.invariant_of-seat g c).After-give_slot-k in let has = (lent g (goal.at.invariant_of-seat g c).After-as_slice).reach.has in
    seat_is _ _ _ _ _ _ _ _ _ _ refl c.remove.ensures.items c.remove.ensures.capacity (ap (λ z. z.slots) c.give_slot-k.ensures.token.0) (now g at has)
    (loses _ _ _ _ c.seat.inside.token.me c.give_slot-k.result.0 c.slot_of-slot.result (holder_of c.args.to) c.requires.held.0 c.give_slot-k.ensures.given.0 c.seat.invariant (place g at))

pub returns-clause-given : goal.returns-clause-given
returns-clause-given g c = λ l has.
    let slot : ℕ = c.slot_of-slot.result in
    let x = c.args.seat.now in let me = c.seat.inside.token.me in let last = c.give_slot-k.ensures.token in
    let number : number_of me.0.shape.records slot ≡ c.args.number = (lent g (goal.at.returns-clause-given g c).After-as_slice).number in
    let h = holder_of c.args.to in
    let given = c.give_slot-k.ensures.given in let e = giving x.process c.args.number h in
    let whose = ap (λ z. z.process) c.seat.view_is in
    let is = now g (goal.at.returns-clause-given g c).After-give_slot-k (lent g (goal.at.returns-clause-given g c).After-as_slice).reach.has in
    let same : c.requires.held.0 ≡ l = (let e : Some c.requires.held.0 ≡ Some l = sym c.requires.held.1 ∙ has in cc) in
    let fronts : c.give_slot-k.new.token.me.0.fronts ≡ adds (given.0 ++ (e, l) ∷ []) me.0.fronts = ap (λ m. m.0.fronts) is ∙ (λ i. adds (given.0 ++ (giving (whose i) (number i) h, same i) ∷ []) me.0.fronts) in
    lost_by x _ x.process c.args.number h l (held_as x _ _ _ me c.seat.view_is _ _ _ c.seat.invariant _ _ c.give_slot-k.new.token.me _ given.0 ((e, l) ∷ []) last.0 last.1
    (ap (λ m. m.0.shape) is)
    (ap (λ m. numbered m.0.shape.records m.1) is ∙ without_numbered me.0.shape c.seat.invariant.small me.1 slot c.seat.invariant.lots ∙ (λ i. without (number i) (c.seat.view_is i).lots))
    fronts given.1 (own_deed (place_of x.process) (e, l) (ap place_of (giving_is x.process c.args.number h c.requires.away.0).3)))
    (held_last x _ _ _ me c.seat.view_is _ _ _ c.seat.invariant c.give_slot-k.new.token.me given.0 (e, l) fronts)

pub returns-clause-len : goal.returns-clause-len
returns-clause-len g c = λ l has. c.give_slot-k.ensures.len l ((lent g (goal.at.returns-clause-len g c).After-as_slice).reach.has ∙ sym c.requires.held.1 ∙ has)
