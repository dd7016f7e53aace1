use Rattle.xh_core.proofs.Orderly.{orderly, orderly_by_right}
use Rattle.xh_core.proofs.talk.Talk.turn.Goals as goal

pub returns-in-Put-eq0-default-clause-orderly : goal.returns-in-Put-eq0-default-clause-orderly
returns-in-Put-eq0-default-clause-orderly c = orderly _ _ _ _ _ c.put_tag.ensures.step

pub returns-in-Put-clause-orderly : goal.returns-in-Put-clause-orderly
returns-in-Put-clause-orderly c = orderly_by_right _ _ _ _ _ c.put_tag-in-Put.ensures.step

pub returns-in-Take-eq0-clause-orderly : goal.returns-in-Take-eq0-clause-orderly
returns-in-Take-eq0-clause-orderly c = orderly _ _ _ _ _ c.take_tag.ensures.step

pub returns-in-Take-clause-orderly : goal.returns-in-Take-clause-orderly
returns-in-Take-clause-orderly c = orderly_by_right _ _ _ _ _ c.take_tag-in-Take.ensures.step
