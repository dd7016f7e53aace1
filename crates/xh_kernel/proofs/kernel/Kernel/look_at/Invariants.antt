use Rattle.xh_calls.specs.declared.call.Call.TheVariants.{Look}
use Rattle.xh_kernel.proofs.kernel.Kernel.look_at.Given as goal

abbrev pub ghost-note : goal.ghost-note
ghost-note g a = let s = a.about.now in Look s.0 s.1.now
