use Rattle.xh_place.proofs.Common.{rules, ◌≡◌, ◌<◌, ◌/◌, ◌%◌, length, refl, sym, ap, subst, Acts, Held, Body, [], ◌∷◌, ◌++◌, Err, has, acts_of}
use Rattle.xh_place.proofs.Common.{item_of}
use Rattle.xh_place.proofs.Words.{Accept, Arrived, accepted_on}
use Rattle.xh_place.proofs.Seeing.{arrived_last, looked}
use Rattle.xh_place.proofs.Gained.{lot_is}
use Rattle.xh_place.proofs.lots.accept_block.Goals as goal

pub look-requires-clause-held : goal.look-requires-clause-held
look-requires-clause-held c =
    let t = c.in_ok-accept.ensures.accepted in let fresh = c.in_ok-accept.ensures.fresh in let seat = c.args.seat.now in
    (t.0, has seat c.accept.new.seat c.args.r t.0 t.1.0 fresh, lot_is seat c.accept.new.seat c.args.r t.0 t.1.0 fresh t.2, t.3)

pub returns-clause-here : goal.returns-clause-here
returns-clause-here c =
    let t = c.in_ok-accept.ensures.accepted in let fresh = c.in_ok-accept.ensures.fresh in let seat = c.args.seat.now in let mid = c.accept.new.seat in
    let at = has seat mid c.args.r t.0 t.1.0 fresh in
    let own = c.requires.own in (
      t.0,
      fresh,
      subst (λ (z : Held Body). Acts (accepted_on seat.process c.args.direction ((c.args.r, item_of t.0) ∷ [])) (seat.lots ++ (c.args.r, t.0) ∷ []) seat z) (sym c.look.ensures.same)
          (acts_of ((Accept seat.process c.args.r c.args.direction, t.0) ∷ []) (accepted_on seat.process c.args.direction ((c.args.r, item_of t.0) ∷ []))
          (seat.lots ++ (c.args.r, t.0) ∷ []) seat mid t.1 refl),
      record { exists = subst (λ z. (c.args.r / 256 < length z.names) × (c.args.r % 256 < z.records)) (sym own.0.1) own.1; lot = t.2; full = t.3 },
      c.look.ensures.header t.0 at,
      subst (λ z. Arrived seat.process seat.front z c.args.r c.args.direction (item_of t.0)) (ap (λ z. z.front) (sym c.look.ensures.same))
          (arrived_last c.args.r c.args.direction t.0 seat mid t.1.1 c.in_ok-accept.ensures.arrives),
    )

pub returns-in_err-accept-clause-missing : goal.returns-in_err-accept-clause-missing
returns-in_err-accept-clause-missing c =
    let m = c.in_err-accept.ensures.missed in let seat = c.args.seat.now in
    let is : c.from_residual.result ≡ Err c.in_err-accept.field-0.0 = search rules in
    rw is (m.0, acts_of [] [] seat.lots seat c.accept.new.seat m.1.2 refl, looked seat c.accept.new.seat c.args.r _ m.1)
