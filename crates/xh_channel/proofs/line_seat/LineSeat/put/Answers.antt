use Rattle.xh_channel.proofs.Common.{IsSettled, LineView, OnErr, EndpointPuts, LinePuts, SeatDoes, Some, ap, line_view, rules, subst, sym, ◌∙◌, ◌≡◌}
use Rattle.xh_channel.proofs.LineMoves.{done_here, put_done, slot_first, still_held, view_after}
use Rattle.xh_channel.proofs.line_seat.LineSeat.put.Goals as goal

pub slot_mut-requires : goal.slot_mut-requires
slot_mut-requires g c = let h = c.hold.ensures.held in (search rules, (Some h.0, slot_first _ _ (ap (λ m. m.1) h.2)))

pub settle-requires-clause-line : goal.settle-requires-clause-line
settle-requires-clause-line g c =
    let v = c.self.inside.seat.me.0 in let t = c.self.inside.seat.table_id in let h = c.hold.ensures.held in let line = c.put-put.new.self in
    let d = done_here v h.1 h.0 _ h.2 _ _ _ line (λ a b k. LinePuts a b k c.args.tag c.args.blocks c.put-put.result
    × OnErr c.put-put.result (b ≡ a)) c.self.invariant.side c.slot_mut.ensures.value c.in-Some.is (c.put-put.ensures.put, c.put-put.ensures.refused) in
    let s = put_done t v h.1 h.0 line h.3 c.args.tag c.args.blocks c.put-put.result d.0 d.1 in
    let held = still_held v h.1 h.0 _ h.2 line in
    (line, ap (λ m. m.1) held, subst (λ m. IsSettled m.0 line) (sym held) s.0)

pub returns-clause-put : goal.returns-clause-put
returns-clause-put g c =
    let v = c.self.inside.seat.me.0 in let t = c.self.inside.seat.table_id in let h = c.hold.ensures.held in let line = c.put-put.new.self in
    let d = done_here v h.1 h.0 _ h.2 _ _ _ line (λ a b k. LinePuts a b k c.args.tag c.args.blocks c.put-put.result
    × OnErr c.put-put.result (b ≡ a)) c.self.invariant.side c.slot_mut.ensures.value c.in-Some.is (c.put-put.ensures.put, c.put-put.ensures.refused) in
    let s = put_done t v h.1 h.0 line h.3 c.args.tag c.args.blocks c.put-put.result d.0 d.1 in
    let held = still_held v h.1 h.0 _ h.2 line in
    let gone = c.settle.ensures in
    let now = ap (λ table. line_view table c.settle.new.token.me.0) (gone.same.0 ∙ c.hold.ensures.same.0) ∙ view_after t v h.1 line _ _ held gone.settled in
    subst (λ (x : LineView × LineView). SeatDoes x.0 x.1 (EndpointPuts c.args.tag c.args.blocks c.put-put.result))
    (λ j. (c.self.view_is j, sym now j)) s.1
