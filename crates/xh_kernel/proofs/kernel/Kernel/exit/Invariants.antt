use Rattle.xh_kernel.proofs.Back.{back_of}
use Rattle.xh_kernel.proofs.Common.{Stop, ◌-◌}
use Rattle.xh_kernel.proofs.kernel.Kernel.exit.Given as goal

abbrev pub ghost-note : goal.ghost-note
ghost-note g a = let s = a.about.now in Stop s.0 s.1 (back_of s.3.now.items - back_of s.2.now.value.items) s.4.now
