use Rattle.std.proofs.Common.{arith, refl, rules}
use Rattle.std.proofs.lemmas.Grind.{common_steps}
use Rattle.xh_heap.proofs.handle.HandleProcess.take_wait.Goals as goal

pub returns-clause-call : goal.returns-clause-call
returns-clause-call g c = (c.at.result, c.at.ensures, (refl, (c.take_wait.result, first_of (search rules, grind (arith, common_steps)), c.take_wait.ensures.calls)))
