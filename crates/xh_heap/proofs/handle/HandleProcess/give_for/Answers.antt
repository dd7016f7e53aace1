use Rattle.std.proofs.Common.{refl, zero}
use Rattle.xh_heap.proofs.handle.HandleProcess.give_for.Goals as goal

pub returns-in_default-clause-call : goal.returns-in_default-clause-call
returns-in_default-clause-call g c = let e = c.give.ensures.call in (e.0, e.1, (e.2.0, (zero, c.args.self.now.account.now, refl, e.2.1)))

pub returns-clause-call : goal.returns-clause-call
returns-clause-call g c = ((c.at-e.result, c.as_slice-blocks.result.now), cc, (refl, rw c.given.ensures.call c.give_until-told.ensures.calls))
