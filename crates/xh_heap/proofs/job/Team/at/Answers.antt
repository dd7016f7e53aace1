use Rattle.std.proofs.Common.{refl, rules}
use Rattle.xh_heap.proofs.job.Team.at.Goals as goal

pub returns-in-Some : goal.returns-in-Some
returns-in-Some g c = ((refl, (λ left _. assumption refl), tt), search rules)
