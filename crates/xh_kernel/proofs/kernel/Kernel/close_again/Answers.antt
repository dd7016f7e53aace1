use Rattle.xh_kernel.proofs.Calling.{ClosesAgain, ap, back_of, came_back, rests, rules, sym, ℕ, ◌-◌}
use Rattle.xh_kernel.proofs.Common.{lives}
use Rattle.xh_kernel.proofs.kernel.Kernel.close_again.Goals as goal

pub note-requires : goal.note-requires
note-requires g c κs within =
    let held = c.deref_mut-held.result.now in let d = c.close_again.ensures.closed in
    let closes = λ (bytes : ℕ). ClosesAgain c.args.p c.args.wired.now.channel c.args.wired.now.low.rec d.0 c.close_again.new.place bytes in
    let came = came_back {P = closes} c.close_again.new.till.tallies.items (ap (λ v. v.items) c.of-before.ensures) d.3 in
    let before = rests g.N.Names.parts _ _ held.place d.0 held.history d.1 in
    (search rules, (search (rules, lives, within) depth 24 fits 20000, (search rules, (search rules, (search rules, (search rules, ((d.0, before, came.0, d.2), search rules)))))))

pub returns : goal.returns
returns g c =
    let d = c.close_again.ensures.closed in
    let closes = λ (bytes : ℕ). ClosesAgain c.args.p c.args.wired.now.channel c.args.wired.now.low.rec d.0 c.close_again.new.place bytes in
    let came = came_back {P = closes} c.close_again.new.till.tallies.items (ap (λ v. v.items) c.of-before.ensures) d.3 in
    (back_of c.close_again.new.till.tallies.items - back_of c.of-before.result.value.items, (search rules, search rules, rw (sym c.account.view_is) came.1, c.note.ensures.step _ (search rules)))
