use Rattle.xh_calls.specs.declared.call.Call.TheVariants.{Give}
use Rattle.xh_kernel.proofs.locked_place.LockedPlace.give.Given as goal

abbrev pub ghost-note : goal.ghost-note
ghost-note g a = let s = a.about.now in Give s.0 s.1 s.2 s.3.now s.4.now
