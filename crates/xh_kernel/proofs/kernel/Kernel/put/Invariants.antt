use Rattle.xh_calls.specs.declared.call.Call.TheVariants.{Put}
use Rattle.xh_kernel.proofs.kernel.Kernel.put.Given as goal

abbrev pub ghost-note : goal.ghost-note
ghost-note g a = let s = a.about.now in Put s.0 s.1.now.value.items s.2 s.3.now
