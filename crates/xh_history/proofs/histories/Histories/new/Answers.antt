use Rattle.std.proofs.Common.{arith, rules}
use Rattle.std.proofs.lemmas.Grind.{common_steps}
use Rattle.xh_history.proofs.Keeping.{begins}
use Rattle.xh_history.proofs.histories.Histories.new.Goals as goal

pub of_words-requires : goal.of_words-requires
of_words-requires g c = begins g.S.Shows.shows (Unit {0})

pub loop-place-preserved : goal.loop-place-preserved
loop-place-preserved g c = (search rules, search rules, grind (arith, common_steps), λ k d below. grind (arith, common_steps, c.loop-place.invariant.3 k d), search rules)
