use Rattle.xh_kernel.proofs.Common.{AccountOf, IsHistoryOf, lives, place_of, rules, subst, ◌≡◌}
use Rattle.xh_kernel.proofs.Lent.{did_write, lends_mut, lent_starts}
use Rattle.xh_kernel.proofs.kernel.Kernel.with_bytes_mut.Goals as goal

pub note-requires : goal.note-requires
note-requires g c κs within =
    let held = c.deref_mut-held.result.now in let e = c.with_bytes_mut-answer.ensures in
    let done = did_write g.F.FnMut g.N.Names.parts c.args.p c.args.r c.args.f.now c.with_bytes_mut-answer.new.f held.place c.with_bytes_mut-answer.new.place c.with_bytes_mut-answer.result e in
    let starts = lent_starts g.F.FnMut g.N.Names.parts c.args.p c.args.r c.args.f.now c.with_bytes_mut-answer.new.f held.place c.with_bytes_mut-answer.new.place c.with_bytes_mut-answer.result e in
    (search rules, (search (rules, lives, within) depth 24 fits 20000, (search rules, (search rules, (search rules, (search rules, ((held.place, held.history, done, starts), search rules)))))))

pub returns : goal.returns
returns g c =
    let inside = c.account.inside in let parts = g.N.Names.parts in let held = c.deref_mut-held.result.now in let answer = c.with_bytes_mut-answer in
    let number : held.scribe.pen.number ≡ place_of c.args.p = search rules in
    let was = subst (λ k. IsHistoryOf parts k held.scribe.pen.history held.place) number held.history in
    let to : AccountOf = record { number = inside.number; tallies = inside.till.tallies.items; fronts = c.note.new.front.fronts; looks = c.note.new.front.looks; vaults = inside.till.seen } in
    lends_mut parts g.N.Names.leads c.args.p c.args.r g.F.FnMut c.args.f.now answer.new.f held.place answer.new.place c.args.account.now to answer.result answer.ensures
    (search rules, search rules, search rules, c.note.ensures.now _ number held.place was)
