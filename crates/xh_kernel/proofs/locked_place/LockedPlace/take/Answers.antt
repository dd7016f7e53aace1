use Rattle.xh_kernel.proofs.Calling.{rules}
use Rattle.xh_kernel.proofs.locked_place.LockedPlace.take.Goals as goal

pub returns : goal.returns
returns g c = (search rules, search rules, search rules, c.note.ensures.step _ c.requires)
