use Rattle.xh_kernel.proofs.Calling.{rules}
use Rattle.xh_kernel.proofs.Recorded.{rests}
use Rattle.xh_kernel.proofs.locked_place.LockedPlace.take_any.Goals as goal

pub note-requires : goal.note-requires
note-requires g c κs within =
    let held = c.args.self.now in let pen = held.scribe.pen in let t = c.take_any-answer.ensures.taken in
    let was = rests g.N.Names.parts pen.number pen.history held.place t.0 held.history t.1 in
    (search rules, (search rules, (search rules, (search rules, (search rules, (search rules, ((t.0, was, t.3, t.2), search rules)))))))

pub returns-clause-call : goal.returns-clause-call
returns-clause-call g c = (search rules, search rules, search rules, c.note.ensures.step _ c.requires)
