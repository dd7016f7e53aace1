use Rattle.xh_calls.specs.declared.call.Call.TheVariants.{Open}
use Rattle.xh_kernel.proofs.kernel.Kernel.open_by.Given as goal

abbrev pub ghost-note : goal.ghost-note
ghost-note g a = let s = a.about.now in Open s.0 s.1 s.2.now.value s.3.now
