use Rattle.std.proofs.Common.{rules}
use Rattle.std.proofs.lemmas.Result.{IfOk-weaker}
use Rattle.xh_script.specs.Config.{IsScriptConfig}
use Rattle.xh_runner.proofs.threads.run_threads.Goals as goal

pub returns-in-Ok-clause-run : goal.returns-in-Ok-clause-run
returns-in-Ok-clause-run g c = IfOk-weaker c.run_named.result _ _ (λ r ran. (c.in-Ok.parts, ran)) c.run_named.ensures.run

pub returns-in-Ok-clause-config : goal.returns-in-Ok-clause-config
returns-in-Ok-clause-config g c = λ outside. let inside : IsScriptConfig c.args.config = search rules in absurd (outside inside)
