use Rattle.xh_runner.proofs.Common.{ap, refl, sym, ◌∙◌}
use Rattle.xh_runner.specs.Plays.{own_names}
use Rattle.xh_runner.proofs.crew.task.Goals as goal

pub returns : goal.returns
returns g c = record {
  world = ap (λ names. record { machine = g.M.Machine.state c.args.machine; names = names; contracts = c.args.crew.now.contracts.now })
      (c.in_ok-names.ensures ∙ ap (own_names c.args.crew.now.ready.now) (sym c.requires.1));
  place = refl;
}
