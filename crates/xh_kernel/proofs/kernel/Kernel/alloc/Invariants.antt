use Rattle.xh_calls.specs.declared.call.Call.TheVariants.{Alloc}
use Rattle.xh_kernel.proofs.kernel.Kernel.alloc.Given as goal

abbrev pub ghost-note : goal.ghost-note
ghost-note g a = let s = a.about.now in Alloc s.0 s.1 s.2 s.3.now
