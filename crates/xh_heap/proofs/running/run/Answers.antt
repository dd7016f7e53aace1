use Rattle.std.proofs.Common.{ap, refl, subst, sym, true, ◌∙◌}
use Rattle.std.proofs.lemmas.Result.{IfOk-weaker}
use Rattle.xh_calls.specs.Parts.{AreMadeBy, PartsOf}
use Rattle.xh_model.specs.declared.limits.TheConstants.{GENERATIONS, MAX_WORKERS}
use Rattle.xh_heap.proofs.running.run.Goals as goal

pub returns-clause-closed : goal.returns-clause-closed
returns-clause-closed g c =
    let made = c.in_ok-parts.ensures.parts in let last = c.with_channels_that_come_back-renewed in
    let same = last.ensures ∙ ap (λ (p : PartsOf). record p { comes_back = true }) c.with_all_numbers.ensures in
    let parts = subst (AreMadeBy c.args.config MAX_WORKERS GENERATIONS) (sym same) (made.0, made.1, made.2, made.3, made.4, made.5, refl) in
    IfOk-weaker c.run_named.result _ _ (λ d h. (last.result, parts, ap (λ (p : PartsOf). p.comes_back) same, h)) c.run_named.ensures.closed
