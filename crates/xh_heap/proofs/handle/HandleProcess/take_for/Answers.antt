use Rattle.std.proofs.Common.{arith, refl, rules, zero}
use Rattle.std.proofs.lemmas.Grind.{common_steps}
use Rattle.xh_heap.proofs.handle.HandleProcess.take_for.Goals as goal

pub returns-in_default : goal.returns-in_default
returns-in_default g c = let e = c.take.ensures in (e.0, e.1, (e.2.0, (e.2.1.0, e.2.1.1, (zero, c.args.self.now.account.now, refl, e.2.1.2))))

pub returns : goal.returns
returns g c = (c.at.result, c.at.ensures, (refl, (c.take_until.result, first_of (search rules, grind (arith, common_steps)), c.take_until.ensures.calls)))
