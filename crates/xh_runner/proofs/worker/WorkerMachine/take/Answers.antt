use Rattle.std.proofs.Common.{◌∙◌, ap, refl}
use Rattle.xh_runner.proofs.Workers.{took, waited}
use Rattle.xh_runner.specs.Workers.{gotten_answer}
use Rattle.xh_runner.proofs.worker.WorkerMachine.take.Goals.{then-waits, else-waits}
use Rattle.xh_runner.proofs.worker.WorkerMachine.take.Goals as goal

pub returns : goal.returns
returns g c =
    let parts = g.N.Names.parts in let leads = g.N.Names.leads in
    elim c.if-waits.branch [
      | then-waits w ↦ rw (w.self-is, w.if-waits.true) (
        waited parts leads c.args.process c.args.endpoint w.take_wait-taken.result c.answered.result
            c.args.self.now.account w.take_wait-taken.new.account (c.answered.ensures ∙ ap gotten_answer w.taken-is) w.take_wait-taken.ensures.waits w.take_wait-taken.ensures.calls,
        refl,
      )
      | else-waits w ↦ rw (w.self-is, w.if-waits.false) (
        took parts leads c.args.process c.args.endpoint w.take-taken.result c.answered.result
            c.args.self.now.account w.take-taken.new.account (c.answered.ensures ∙ ap gotten_answer w.taken-is) w.take-taken.ensures,
        refl,
      )
    ]
