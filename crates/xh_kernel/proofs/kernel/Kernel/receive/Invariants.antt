use Rattle.xh_kernel.proofs.Back.{back_of}
use Rattle.xh_kernel.proofs.Common.{Receive, ◌-◌}
use Rattle.xh_kernel.proofs.kernel.Kernel.receive.Given as goal

abbrev pub ghost-note : goal.ghost-note
ghost-note g a = let s = a.about.now in Receive s.0 s.1 s.2 (back_of s.4.now.items - back_of s.3.now.value.items) s.5.now
