use Rattle.std.proofs.Common.{refl}
use Rattle.xh_heap.proofs.handle.HandleProcess.give_wait.Goals as goal

pub returns-clause-call : goal.returns-clause-call
returns-clause-call g c = ((c.at.result, c.as_slice-blocks.result.now), cc, (refl, rw c.given.ensures.call c.give_until-told.ensures.calls))
