use Rattle.xh_kernel.proofs.Calling.{rules, sym}
use Rattle.xh_kernel.proofs.kernel.Kernel.split.Goals as goal

pub returns : goal.returns
returns g c = (search rules, search rules, rw (sym c.account.view_is) (c.split-answer.ensures.tallies, c.split-answer.ensures.asked), c.note.ensures.step _ (search rules))
