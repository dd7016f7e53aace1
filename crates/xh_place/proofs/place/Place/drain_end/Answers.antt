use Rattle.xh_place.proofs.Common.{◌≡◌, ◌∙◌, sym, ap, subst, refl, now_of, value_at, put, put_at, with_lots, Clears, IsSeatOf, changes, item_of, now_is, still_block, same_len, there, ◌+◌, [], Body}
use Rattle.xh_place.proofs.Common.{EndDoes, IsLotOf, IsRecord, LotOf, PlaceSeen, content_of, kind_of}
use Rattle.xh_place.proofs.Drained.{cleared, cleared_bytes}
use Rattle.xh_channel.specs.Calls.{EndpointShuts}
use Rattle.xh_core.specs.declared.header.Kind.TheVariants as kind
use Rattle.xh_place.proofs.place.Place.drain_end.Goals.{After-look, After-shut_at}
use Rattle.xh_place.proofs.place.Place.drain_end.Goals as goal

pub look-requires : goal.look-requires
look-requires g c =
    let seat = c.self.inside.seat in let q = c.requires.held in let own = subst (λ p. IsSeatOf c.args.desk.now.records.now p.seat) (sym c.self.view_is) c.requires.own in
    let t = there c.args.desk.now.records.now seat seat refl own c.self.invariant.whole c.args.r (ap (λ p. value_at c.args.r p.seat.lots) c.self.view_is ∙ q.1) in record { own = t.0; held = t.1 }

pub returns-in-Data : goal.returns-in-Data
returns-in-Data g c =
    let q = c.requires.held in let at = ap (λ p. value_at c.args.r p.seat.lots) c.self.view_is ∙ q.1 in
    let last : PlaceSeen = record { seat = c.look.new.seat; list = c.self.inside.list.items; state = c.self.inside.state } in
    record {
      cleared = (
        q.0,
        q.0,
        [],
        subst (λ p. Clears c.args.r q.0 q.0 [] p last) c.self.view_is
            (cleared_bytes c.args.r q.0 (record { seat = c.self.inside.seat; list = c.self.inside.list.items; state = c.self.inside.state }) last at
            (sym (ap (λ h. h.kind) (c.look.ensures.header q.0 at)) ∙ c.in-Data.is) (λ i. record { seat = c.look.ensures.same i; list = c.self.inside.list.items; state = c.self.inside.state })),
      );
    }

pub shut_at-requires : goal.shut_at-requires
shut_at-requires g c =
    let q = c.requires.held in let at = ap (λ p. value_at c.args.r p.seat.lots) c.self.view_is ∙ q.1 in let block = c.self.invariant.whole c.args.r q.0 at in
    let same = c.look.ensures.same in let all = c.args.desk.now.records.now in let own = subst (λ p. IsSeatOf all p.seat) (sym c.self.view_is) c.requires.own in record {
      own = ((ap (λ h. h.table) same ∙ own.0, ap (λ h. h.shape) same ∙ own.1), subst (λ s. IsRecord s c.args.r) own.1 block.exists);
      held = (q.0, ap (λ h. value_at c.args.r h.lots) same ∙ at, subst (λ h. IsLotOf h.shape c.args.r q.0) (sym same) block.lot, sym (ap (λ h. h.kind) (c.look.ensures.header q.0 at)) ∙ c.in-End.is);
    }

-- the lot of the endpoint that was shut
shut : (g : _) (c : After-shut_at g) → let q = c.requires.held in (m : LotOf Body) × EndDoes EndpointShuts q.0 m
    × (c.shut_at.new.seat ≡ with_lots c.self.inside.seat (put c.args.r m c.self.inside.seat.lots))
shut g c =
    let q = c.requires.held in let at = ap (λ p. value_at c.args.r p.seat.lots) c.self.view_is ∙ q.1 in let same = c.look.ensures.same in
    let t = c.shut_at.ensures q.0 (ap (λ h. value_at c.args.r h.lots) same ∙ at) in (t.0, t.1, t.2 ∙ ap (λ h. with_lots h (put c.args.r t.0 h.lots)) same)

pub invariant_of-self-2 : goal.invariant_of-self-2
invariant_of-self-2 g c =
    let q = c.requires.held in let at = ap (λ p. value_at c.args.r p.seat.lots) c.self.view_is ∙ q.1 in let block = c.self.invariant.whole c.args.r q.0 at in
    let t = shut g (goal.at.invariant_of-self-2 g c).After-shut_at in
    now_is c.self.inside.seat c.shut_at.new.seat (now_of c.self.inside.seat c.shut_at.new.seat (put c.args.r t.0 c.self.inside.seat.lots) t.2)
    (changes c.self.invariant at (still_block EndpointShuts block t.1) (ap (λ n. c.self.inside.total + n) (sym (same_len EndpointShuts block t.1))))

pub drain-requires-clause-end : goal.drain-requires-clause-end
drain-requires-clause-end g c =
    let q = c.requires.held in let at = ap (λ p. value_at c.args.r p.seat.lots) c.self.view_is ∙ q.1 in let t = shut g (goal.at.drain-requires-clause-end g c).After-shut_at in
    (t.0, ap (λ h. value_at c.args.r h.lots) t.2 ∙ put_at c.args.r t.0 q.0 c.self.inside.seat.lots at, ap (λ z. kind_of (content_of z.body)) t.1.becomes)

pub returns : goal.returns
returns g c =
    let q = c.requires.held in let at = ap (λ p. value_at c.args.r p.seat.lots) c.self.view_is ∙ q.1 in let t = shut g (goal.at.returns g c).After-shut_at in let d = c.drain.ensures.drained in
    let old : PlaceSeen = record { seat = c.self.inside.seat; list = c.self.inside.list.items; state = c.self.inside.state } in
    let mid : PlaceSeen = record { seat = c.shut_at.new.seat; list = c.self.inside.list.items; state = c.self.inside.state } in
    record {
      cleared = (
        q.0,
        d.1.1,
        d.1.2,
        subst (λ p. Clears c.args.r q.0 d.1.1 d.1.2 p c.drain.new.self) c.self.view_is
            (cleared c.args.r q.0 t.0 d.0 old mid c.drain.new.self at t.1 (λ i. record { seat = t.2 i; list = c.self.inside.list.items; state = c.self.inside.state }) d.1),
      );
    }
