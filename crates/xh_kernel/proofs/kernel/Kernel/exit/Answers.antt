use Rattle.xh_kernel.proofs.Calling.{ap, back_of, came_back, rules, sym, ◌-◌}
use Rattle.xh_kernel.proofs.Common.{lives}
use Rattle.xh_kernel.proofs.kernel.Kernel.exit.Goals as goal

pub note-requires : goal.note-requires
note-requires g c κs within =
    let held = c.deref_mut-held.result.now in let e = c.stop-answer.ensures in let came = came_back c.stop-answer.new.till.tallies.items (ap (λ v. v.items) c.of-before.ensures) e.stopped in
    (search rules, (search (rules, lives, within) depth 24 fits 20000, (search rules, (search rules, (search rules, (search rules, ((held.place, held.history, came.0, e.same.0.3), search rules)))))))

pub returns : goal.returns
returns g c =
    let came = came_back c.stop-answer.new.till.tallies.items (ap (λ v. v.items) c.of-before.ensures) c.stop-answer.ensures.stopped in
    (back_of c.stop-answer.new.till.tallies.items - back_of c.of-before.result.value.items, (search rules, search rules, rw (sym c.account.view_is) came.1, c.note.ensures.step _ (search rules)))
