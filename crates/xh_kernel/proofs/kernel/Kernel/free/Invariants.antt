use Rattle.xh_calls.specs.declared.call.Call.TheVariants.{Free}
use Rattle.xh_kernel.proofs.kernel.Kernel.free.Given as goal

abbrev pub ghost-note : goal.ghost-note
ghost-note g a = let s = a.about.now in Free s.0 s.1 s.2.now
