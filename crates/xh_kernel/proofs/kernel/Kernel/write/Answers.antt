use Rattle.xh_kernel.proofs.Common.{ap, rules, ◌∙◌}
use Rattle.xh_kernel.proofs.kernel.Kernel.write.Goals as goal

pub returns : goal.returns
returns g c =
    (search rules, search rules, search rules, c.note.ensures.step _ (ap (λ h. h.scribe.pen.number) c.deref_mut-held.ensures.value ∙ c.held-guard.ensures))
