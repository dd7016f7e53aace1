use Rattle.xh_place.proofs.Common.{arith, ◌≡◌, ◌+◌, ◌∙◌, ◌∷◌, ◌++◌, [], length, length-append, refl, starts_same, did_starts, accepted_on, becomes_same, is_end}
use Rattle.xh_place.proofs.Drained.{drained, drained_all, draining_at, draining_end, draining_more, draining_none, end_body}
use Rattle.xh_place.proofs.place.Place.drain.Goals as goal

pub loop-count-init : goal.loop-count-init
loop-count-init g c = let q = c.requires.end in let p = end_body q.0.body q.2 in ([], draining_none c.args.e q.0 p.0 c.args.self.now q.1 p.1, refl)

pub take_message-requires-clause-held : goal.take_message-requires-clause-held
take_message-requires-clause-held g c = let i = c.loop-count.invariant in let mid = c.loop-count.self in
    (i.1.1, draining_at c.args.e i.0 c.args.self.now mid mid i.1 (starts_same refl))

pub loop-count-preserved : goal.loop-count-preserved
loop-count-preserved g c =
    let i = c.loop-count.invariant in let old = c.args.self.now in let mid = c.loop-count.self in let new = c.take_message.new.self in
    let t = is_end _ (draining_end c.args.e i.0 old mid mid i.1 (starts_same refl)) (rw c.in-Ok.is at c.take_message.ensures.taken) in
    let after = (becomes_same _ _ _ mid new t.list).3 in
    (i.0 ++ t.message ∷ [], draining_more c.args.e i.0 old mid new i.1 after _ t, omega (arith, length-append i.0 (t.message ∷ []), i.2))

pub returns-in-Err : goal.returns-in-Err
returns-in-Err g c =
    let i = c.loop-count.invariant in let old = c.args.self.now in let mid = c.loop-count.self in let new = c.take_message.new.self in
    let t = is_end _ (draining_end c.args.e i.0 old mid mid i.1 (starts_same refl)) (rw c.in-Err.is at c.take_message.ensures.taken) in
    record { drained = (i.0, drained c.args.e i.0 old mid new i.1 (becomes_same _ _ _ mid new t.list).3 _ t) }

pub returns : goal.returns
returns g c =
    let i = c.loop-count.invariant in record { drained = (i.0, drained_all c.args.e i.0 c.args.self.now c.loop-count.self i.1 (omega (arith, i.2, c.loop-count-test.false))) }
