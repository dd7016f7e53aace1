use Rattle.xh_kernel.proofs.Common.{Take}
use Rattle.xh_kernel.proofs.locked_place.LockedPlace.take.Given as goal

abbrev pub ghost-note : goal.ghost-note
ghost-note g a = let s = a.about.now in Take s.0 s.1 s.2.now
