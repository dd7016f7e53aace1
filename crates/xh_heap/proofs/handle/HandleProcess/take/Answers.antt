use Rattle.std.proofs.Common.{arith, refl, rules}
use Rattle.std.proofs.lemmas.Grind.{common_steps}
use Rattle.xh_heap.proofs.handle.HandleProcess.take.Goals as goal

pub returns : goal.returns
returns g c = (c.at.result, c.at.ensures, (refl, (c.take.result, first_of (search rules, grind (arith, common_steps)), c.take.ensures)))
