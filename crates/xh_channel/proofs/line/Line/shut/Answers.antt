use Rattle.xh_core.proofs.Orderly.{orderly}
use Rattle.xh_channel.proofs.line.Line.shut.Goals as goal

pub returns-then-side-eq0-clause-orderly : goal.returns-then-side-eq0-clause-orderly
returns-then-side-eq0-clause-orderly c = orderly _ _ _ _ _ c.self.invariant.step

pub returns-else-side-eq0-clause-orderly : goal.returns-else-side-eq0-clause-orderly
returns-else-side-eq0-clause-orderly c = orderly _ _ _ _ _ c.self.invariant.step
