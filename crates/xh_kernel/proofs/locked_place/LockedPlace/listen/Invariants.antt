use Rattle.xh_kernel.proofs.Common.{◌≡◌}
use Rattle.xh_place.specs.Seen.{Stays}
use Rattle.xh_kernel.proofs.locked_place.LockedPlace.listen.Given as goal

abbrev pub invariant-loop-e : goal.invariant-loop-e
invariant-loop-e g l = Stays l.initial.self.place l.self.place × (l.self.scribe ≡ l.initial.self.scribe)
