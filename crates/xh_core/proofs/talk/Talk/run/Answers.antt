use Rattle.xh_core.proofs.Common.{AreInStep, subst}
use Rattle.xh_core.proofs.Orderly.{orderly}
use Rattle.xh_core.proofs.talk.Talk.run.Goals as goal

pub returns-clause-orderly : goal.returns-clause-orderly
returns-clause-orderly c = orderly _ _ _ _ _ (subst (λ t. AreInStep t.rows 0 t.left t.right) c.self.view_is c.self.invariant.1)
