use Rattle.xh_records.proofs.Common.{arith, ◌≡◌, ℕ, ◌<◌, ◌-◌, ap, length, lost, turns, IsOthers, sym, ◌∙◌, subst, ◌∷◌, rest, View, holder_of, Owns, IsLotAt, IsAlone, in_slot}
use Rattle.xh_records.specs.inner.Steps.{process_in}
use Rattle.xh_records.proofs.Elements.{in_range}
use Rattle.xh_records.proofs.Keeps.{gives_lot}
use Rattle.xh_records.proofs.Lists.{first_is, turned_by}
use Rattle.xh_records.proofs.token.give_slot.Given.{Over}
use Rattle.xh_records.proofs.token.give_slot.Goals.{After-slot_mut}
use Rattle.xh_records.proofs.token.give_slot.Goals as goal

-- what is read there is what the token has in the slot
read : (g : Over) (c : After-slot_mut g) → c.slot_mut.result.now ≡ in_slot c.args.slot c.args.token.now.me.1
read g c =
    let turned = turned_by _ _ _ _ _ c.requires.listed c.position-k.ensures (ap (λ z. z.1) c.turn_by.ensures.2) in
    first_is c.args.slot _ _ _ _ _ (c.slot_mut.ensures.value ∙ (λ i. (c.from-at.ensures i, c.slot_mut.result.now) ∷ rest c.turn_by.new.token.me.1)) turned.first

pub slot_mut-requires : goal.slot_mut-requires
slot_mut-requires g c =
    let x = in_slot c.args.slot c.args.token.now.me.1 in
    let turned = turned_by _ _ _ _ _ c.requires.listed c.position-k.ensures (ap (λ z. z.1) c.turn_by.ensures.2) in
    (c.turn_by.ensures.0 ∙ c.requires.own.0, (x, turned.first ∙ (λ i. (sym c.from-at.ensures i, x) ∷ rest c.turn_by.new.token.me.1)))

pub unreachable-requires : goal.unreachable-requires
unreachable-requires g c = let r = read g (goal.at.unreachable-requires g c).After-slot_mut in let has = c.requires.lot.1 in let none = c.in_default.is in absurd (cc)

pub store-requires : goal.store-requires
store-requires g c =
    let m = c.turn_by.ensures in let lot = c.requires.lot in let view = ap (λ z. z.0) (sym m.2) in let slot = sym c.from-at.ensures in
    let is = sym c.in-Some.is ∙ read g (goal.at.store-requires g c).After-slot_mut ∙ lot.1 in (
      m.0 ∙ c.requires.own.0,
      subst (λ (n : ℕ). n < c.args.board.now.table_id.words) slot c.requires.own.1,
      gives_lot g.B.Fits.is_fit c.args.board.now.key _ _ _ _ _ c.requires.owned.0 (holder_of c.args.to) lot.0 _ c.encode-word.ensures c.requires.away.0 c.requires.away.1
          (λ i. (c.from-at.result, is i) ∷ rest c.turn_by.new.token.me.1)
          (subst (λ (z : View g.row.B.Denot). IsAlone z c.requires.owned.0) view c.requires.owned.1)
          (subst (λ (z : View g.row.B.Denot × ℕ). Owns z.0 z.1 c.requires.owned.0) (λ i. (view i, slot i)) c.requires.owned.2)
          (subst (λ (z : View g.row.B.Denot × ℕ). IsLotAt z.0.shape z.1 lot.0) (λ i. (view i, slot i)) lot.2)
          lot.3,
    )

pub overflow_sub-order : goal.overflow_sub-order
overflow_sub-order g c = let below : c.position-k.result < length c.args.order.now = in_range _ _ c.args.slot c.position-k.ensures in omega arith

pub overflow_sub-order-2 : goal.overflow_sub-order-2
overflow_sub-order-2 g c = let below : c.position-k.result < length c.args.order.now = in_range _ _ c.args.slot c.position-k.ensures in omega arith

pub returns-clause-given : goal.returns-clause-given
returns-clause-given g c =
    let s = c.store.ensures.2 in let view = ap (λ z. z.0) c.turn_by.ensures.2 in let slot = c.from-at.ensures in let h = holder_of c.args.to in
    let turned = turned_by _ _ _ _ _ c.requires.listed c.position-k.ensures (ap (λ z. z.1) c.turn_by.ensures.2) in (
      s.0,
      subst (λ (z : View g.row.B.Denot). IsOthers z s.0) view s.1,
      λ l has.
          let is = sym c.in-Some.is ∙ read g (goal.at.returns-clause-given g c).After-slot_mut ∙ has in
          let u = s.2 h l c.encode-word.ensures (λ i. (c.from-at.result, is i) ∷ rest c.turn_by.new.token.me.1) in
          c.turn_by-2.ensures.2 ∙ ap (λ m. (m.0, turns (length c.args.order.now - c.position-k.result - 1) m.1)) u
          ∙ (λ i. (lost (view i) (slot i) (process_in (view i)) h l s.0, turned.gone i)),
    )

pub returns-clause-len : goal.returns-clause-len
returns-clause-len g c = λ l has. let r = read g (goal.at.returns-clause-len g c).After-slot_mut in let is = c.in-Some.is in let e : c.in-Some.lot ≡ l = cc in c.len-len.ensures ∙ ap (λ z. z.len) e
