use Rattle.xh_kernel.proofs.Calling.{given, gives_up, mapped, rules, sym}
use Rattle.xh_kernel.proofs.Common.{length, lives}
use Rattle.xh_place.specs.Calls.{HasBytes}
use Rattle.xh_kernel.proofs.kernel.Kernel.into_bytes.Goals as goal

pub note-requires : goal.note-requires
note-requires g c κs within =
    let held = c.deref_mut-held.result.now in let e = c.into_bytes-answer.ensures in
    let done = gives_up c.into_bytes-answer.result (λ v. v.items) (HasBytes c.args.r held.place.seat) e.freed in
    (search rules, (search (rules, lives, within) depth 24 fits 20000, (search rules, (search rules, (search rules, (search rules, ((held.place, held.history, done, e.same.0.3), search rules)))))))

pub returns : goal.returns
returns g c =
    let result = c.into_bytes-answer.result in let e = c.into_bytes-answer.ensures in
    let moved = given _ _ _ _ result (λ v. length v.items) _ _ c.account.invariant.0.0 e.arena e.tallies e.asked in
    (search rules, search rules, rw (sym c.account.view_is) (mapped result (λ v. v.items) _ _ moved), c.note.ensures.step _ (search rules))
