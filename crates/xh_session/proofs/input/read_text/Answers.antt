use Rattle.std.proofs.Common.{length-append, rules}
use Rattle.std.proofs.KnownBytes.{Consumes-trans}
use Rattle.xh_session.proofs.input.read_text.Goals as goal

pub returns-in_err-extend_from_slice-in-Some-clause-limit : goal.returns-in_err-extend_from_slice-in-Some-clause-limit
returns-in_err-extend_from_slice-in-Some-clause-limit g c =
    (_, Consumes-trans _ _ _ c.loop-room.text.items _ c.loop-room.invariant.reads.taken c.in-Some.ensures.some.taken, simp length-append (search rules))
