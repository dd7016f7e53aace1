use Rattle.xh_records.proofs.Common.{◌-◌, ◌∷◌, length, ap, ◌∙◌, Some, rest, turns}
use Rattle.xh_records.proofs.Lists.{first_is}
use Rattle.xh_records.proofs.lending.call_in.Goals as goal

pub returns-clause-called : goal.returns-clause-called
returns-clause-called g c =
    let t = c.turn_to-k.ensures in let l = c.turn_to-k.new.token.me.1 in let left = c.call_at-answer.new.x in (
      c.in-Some.lot,
      left,
      first_is c.args.slot _ _ _ _ _ t.turned.first (c.slot_mut.ensures.value ∙ (λ i. (c.from.ensures i, c.in-Some.is i) ∷ rest l)),
      c.call_at-answer.ensures,
      c.turn_by.ensures.2 ∙ (λ i. (t.same.2 i, turns (length c.args.order.now - c.turn_to-k.result) ((c.from.ensures i, Some left) ∷ rest l)))
          ∙ ap (λ z. (c.args.token.now.me.0, z)) (t.turned.again (Some left)),
    )
