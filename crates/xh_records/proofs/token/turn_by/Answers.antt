use Rattle.xh_records.proofs.Common.{arith, ◌≡◌, suc, ◌+◌, ◌-◌, ap, ◌∙◌, turns}
use Rattle.xh_records.proofs.token.turn_by.Goals as goal

pub loop-done-preserved : goal.loop-done-preserved
loop-done-preserved g c =
    let i = c.loop-done.invariant in let t = c.turn.ensures in
    let one : suc (c.args.count - (c.loop-done.done + 1)) ≡ c.args.count - c.loop-done.done = omega arith in
    (t.0 ∙ i.0, t.1 ∙ i.1, ap (λ m. m.0) t.2 ∙ i.2, ap (λ m. turns (c.args.count - (c.loop-done.done + 1)) m.1) t.2 ∙ ap (λ n. turns n c.loop-done.token.me.1) one ∙ i.3)
