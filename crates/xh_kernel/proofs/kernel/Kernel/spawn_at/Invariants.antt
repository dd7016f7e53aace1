use Rattle.xh_calls.specs.declared.call.Call.TheVariants.{Spawn}
use Rattle.xh_kernel.proofs.kernel.Kernel.spawn_at.Given as goal

abbrev pub ghost-note : goal.ghost-note
ghost-note g a = Spawn a.about.now
