use Rattle.xh_calls.specs.declared.call.Call.TheVariants.{Split}
use Rattle.xh_kernel.proofs.kernel.Kernel.split.Given as goal

abbrev pub ghost-note : goal.ghost-note
ghost-note g a = let s = a.about.now in Split s.0 s.1 s.2 s.3.now
