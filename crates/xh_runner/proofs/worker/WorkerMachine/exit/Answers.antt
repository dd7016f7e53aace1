use Rattle.std.proofs.Common.{◌∙◌, ap, min, refl, subst}
use Rattle.xh_kernel.specs.Endings.{Exits}
use Rattle.xh_runner.proofs.worker.WorkerMachine.exit.Goals as goal

pub returns : goal.returns
returns g c = (
  subst (λ b. Exits g.N.Names.leads c.args.process b c.args.self.now.account c.exit.new.account c.exit.result) (c.min-budget.ensures ∙ ap (min c.args.budget) c.from.ensures) c.exit.ensures,
  refl,
)
