use Rattle.xh_core.proofs.Common.{put_step, sym, ◌∙◌}
use Rattle.xh_core.proofs.talk.put_tag.Goals as goal

pub returns-clause-step : goal.returns-clause-step
returns-clause-step c = rw c.push.ensures.items (put_step _ _ _ c.args.tag _ _ _ _ c.requires.valid c.requires.step (sym c.allows.ensures ∙ c.in-Some.is))
