use Rattle.xh_runner.proofs.Common.{refl, sym, ◌∙◌}
use Rattle.xh_runner.proofs.play.hear.Goals as goal

pub returns-else-names_renewed : goal.returns-else-names_renewed
returns-else-names_renewed g c = (0, rw (sym c.names_renewed.ensures ∙ c.if-names_renewed.false) refl)
