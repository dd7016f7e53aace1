use Rattle.xh_runner.proofs.Common.{ap, began_at, refl, sym, ◌∙◌}
use Rattle.xh_runner.proofs.Wholes.{no_part}
use Rattle.xh_runner.proofs.crew.start.Goals as goal

pub returns-in_default : goal.returns-in_default
returns-in_default g c = λ done is. (
  began_at c.args.crew.now.ready.now c.args.crew.now.contracts.now c.args.place (g.M.Machine.state c.args.machine),
  rw (no_part _ _ c.args.crew.now.lines.now c.requires (sym c.process_at.ensures ∙ c.in_default.is), ap (λ d. d.replies.items) is, c.new.ensures.items) refl,
  ap (λ d. g.M.Machine.state d.machine) (sym is),
)

pub returns : goal.returns
returns g c = λ done joined. rw (c.in_ok-handle.ensures.ok, c.of.ensures, c.in_ok-task.ensures.world, c.in_ok-task.ensures.place) at joined
