use Rattle.xh_calls.specs.declared.call.Call.TheVariants.{OpenToward}
use Rattle.xh_kernel.proofs.kernel.Kernel.open_toward.Given as goal

abbrev pub ghost-note : goal.ghost-note
ghost-note g a = let s = a.about.now in OpenToward s.0 s.1 s.2.now.value s.3.now
