use Rattle.xh_kernel.proofs.Calling.{rules}
use Rattle.xh_kernel.proofs.Common.{stays_itself}
use Rattle.xh_kernel.proofs.kernel.Kernel.look_at.Goals as goal

pub returns : goal.returns
returns g c = (search rules, search rules, search rules, c.note.ensures.step _ (search (rules, stays_itself)))
