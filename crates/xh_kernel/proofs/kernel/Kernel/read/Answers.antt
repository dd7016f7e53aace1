use Rattle.xh_kernel.proofs.Common.{ap, rules, ◌∙◌}
use Rattle.xh_kernel.proofs.kernel.Kernel.read.Goals as goal

pub returns-clause-call : goal.returns-clause-call
returns-clause-call g c =
    (search rules, search rules, search rules, c.note.ensures.step _ (ap (λ h. h.scribe.pen.number) c.deref_mut-held.ensures.value ∙ c.held-guard.ensures))
