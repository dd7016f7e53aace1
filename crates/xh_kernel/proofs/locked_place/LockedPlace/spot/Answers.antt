use Rattle.xh_kernel.proofs.Recorded.{rests, sound_stays}
use Rattle.xh_kernel.proofs.locked_place.LockedPlace.spot.Goals as goal

pub invariant_of-self-clause-history : goal.invariant_of-self-clause-history
invariant_of-self-clause-history g c =
    let self = c.args.self.now in let pen = self.scribe.pen in
    rests g.N.Names.parts pen.number pen.history self.place c.spot.new.self self.history c.spot.ensures.same

pub invariant_of-self-clause-lawful : goal.invariant_of-self-clause-lawful
invariant_of-self-clause-lawful g c = sound_stays c.args.self.now.place c.spot.new.self c.spot.ensures.same c.args.self.now.lawful
