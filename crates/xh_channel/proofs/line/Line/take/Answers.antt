use Rattle.xh_core.proofs.Orderly.{orderly, orderly_by_right}
use Rattle.xh_channel.proofs.line.Line.take.Goals as goal

pub returns-then-side-eq0-clause-orderly : goal.returns-then-side-eq0-clause-orderly
returns-then-side-eq0-clause-orderly c = orderly _ _ _ _ _ c.take_between.ensures.step

pub returns-else-side-eq0-clause-orderly : goal.returns-else-side-eq0-clause-orderly
returns-else-side-eq0-clause-orderly c = orderly_by_right _ _ _ _ _ c.take_between-else-side-eq0.ensures.step
