use Rattle.xh_kernel.proofs.Common.{TakeAny}
use Rattle.xh_kernel.proofs.locked_place.LockedPlace.take_any.Given as goal

abbrev pub ghost-note : goal.ghost-note
ghost-note g a = let s = a.about.now in TakeAny s.0 s.1.now s.2.now
