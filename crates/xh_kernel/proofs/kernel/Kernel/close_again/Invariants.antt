use Rattle.xh_kernel.proofs.Back.{back_of}
use Rattle.xh_kernel.proofs.Common.{CloseAgain, ◌-◌}
use Rattle.xh_kernel.proofs.kernel.Kernel.close_again.Given as goal

abbrev pub ghost-note : goal.ghost-note
ghost-note g a = let s = a.about.now in CloseAgain s.0 s.1.now.low.rec s.1.now.channel (back_of s.3.now.items - back_of s.2.now.value.items)
