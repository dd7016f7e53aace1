use Rattle.xh_place.proofs.Deeds.{same_then}
use Rattle.xh_calls.proofs.Looks.{empty, shut, took}
use Rattle.xh_calls.proofs.heap.Heap.take_first.Goals as goal

pub returns-in-Ok-clause-taken : goal.returns-in-Ok-clause-taken
returns-in-Ok-clause-taken g c =
    let l = c.loop-at in took c.args.p c.args.ends.now l.at c.args.place.now l.place c.take.new.place c.loop-at-test.true c.in-Ok.taken l.invariant.2.0 (rw c.in-Ok.is at c.take.ensures.taken)

pub loop-at-preserved-in-Empty : goal.loop-at-preserved-in-Empty
loop-at-preserved-in-Empty g c =
    let l = c.loop-at in let was = l.invariant in let old = c.args.place.now in let new = c.take.new.place in let taken = rw c.in-Err.is at c.take.ensures.taken in
    let next = empty c.args.p c.args.ends.now l.at old l.place new c.loop-at-test.true c.in-Err.why was.1 taken l.closed c.in-Empty.is ((rw c.in-Err.is at c.take.ensures.empty) c.in-Empty.is) was.2 in
    (same_then old l.place new was.0 c.take.ensures.same, next.0, next.1)

pub loop-at-preserved : goal.loop-at-preserved
loop-at-preserved g c =
    let l = c.loop-at in let was = l.invariant in let old = c.args.place.now in let new = c.take.new.place in let taken = rw c.in-Err.is at c.take.ensures.taken in
    let next = shut c.args.p c.args.ends.now l.at old l.place new c.loop-at-test.true c.in-Err.why was.1 taken l.closed c.in_default.not-Empty was.2 in
    (same_then old l.place new was.0 c.take.ensures.same, next.0, rw c.or-closed.ensures next.1)
