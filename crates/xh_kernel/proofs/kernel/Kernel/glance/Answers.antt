use Rattle.std.proofs.lemmas.Grind.{common_steps}
use Rattle.xh_kernel.proofs.Common.{Entry, History, List, ap, arith, rules, suc, ◌∙◌}
use Rattle.xh_kernel.proofs.kernel.Kernel.glance.Goals as goal

pub returns-clause-seen : goal.returns-clause-seen
returns-clause-seen g c =
    let old = c.args.look.now in let saw = c.look.ensures in (
      search rules,
      (
        saw.seen.0,
        saw.same ∙ ap (λ (fs : List (History Entry)). record old { fronts = fs; looks = suc old.looks }) saw.seen.1,
        first_of (search rules, grind (arith, common_steps)),
      ),
    )
