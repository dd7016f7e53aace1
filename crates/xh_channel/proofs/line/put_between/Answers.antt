use Rattle.xh_channel.proofs.Common.{Message, arith, map-append, numbers_join, rules, sym, ◌∙◌}
use Rattle.xh_model.proofs.InStep.{put_step}
use Rattle.xh_channel.proofs.line.put_between.Goals as goal
use Rattle.xh_channel.specs.Directions.{message_number}

pub returns-clause-order : goal.returns-clause-order
returns-clause-order c =
    let was = c.requires.order in
    ((omega (arith, was.0.0, c.push.ensures.len), rw c.push.ensures.items (numbers_join message_number _ _ _ was.0.1 (omega (arith, was.0.0)))), search rules)

pub returns-clause-step : goal.returns-clause-step
returns-clause-step c = rw (c.push.ensures.items, map-append (λ (m : Message). m.tag)) (put_step _ _ _ c.args.tag _ _ _ _ c.requires.valid c.requires.step (sym c.allows.ensures ∙ c.in-Some.is))
