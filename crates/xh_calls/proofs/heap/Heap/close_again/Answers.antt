use Rattle.xh_calls.proofs.Common.{Body, HasLow, LotOf, None, PlaceSeen, Some, [], did_starts, first_refusal, fits_in, inl, inr, refl, start, status_at, stays_itself, subst, sym, ℕ, ◌≡◌}
use Rattle.xh_calls.proofs.Moved.{none_given}
use Rattle.xh_calls.proofs.Wiring.{closes_again}
use Rattle.xh_calls.specs.Places.{GivesBack}
use Rattle.xh_model.specs.Keyed.{value_at}
use Rattle.xh_records.specs.Showing.{IsFull}
use Rattle.xh_calls.proofs.heap.Heap.close_again.Goals as goal

pub returns-in-Err-clause-closed : goal.returns-in-Err-clause-closed
returns-in-Err-clause-closed g c =
    let old = c.args.place.now in let same = stays_itself old in
    (old, same, did_starts old.seat.process [] old.seat.front old.seat.front same.1, (0, inl ((same, refl), inl (_, c.in-Err.ensures)), none_given c.args.till.now))

pub returns-then-has_low-clause-closed : goal.returns-then-has_low-clause-closed
returns-then-has_low-clause-closed g c =
    let from = c.has_low.new.place in let same = sym c.has_low.ensures.same.0 in
    let d = closes_again c.args.p c.args.wired.now.low.rec c.args.wired.now.channel (λ n. GivesBack n c.args.till.now c.close-closed.new.till) from c.close-closed.new.place
    c.close-closed.result (subst (λ (z : PlaceSeen). first_refusal (start (status_at c.args.p z)) ≡ None) same c.in_default.ensures.0)
    (subst (λ (z : PlaceSeen). (k : ℕ) (l : LotOf Body) → value_at k z.seat.lots ≡ Some l → IsFull fits_in l) same c.blocks-blocks.ensures.blocks.whole)
    (subst (HasLow c.args.wired.now.channel c.args.wired.now.low.rec) same (c.has_low.ensures.yes c.if-has_low.true)) c.close-closed.ensures.closed in
    (from, c.has_low.ensures.same, c.close-closed.ensures.same.0.3, d)

pub returns-else-has_low-clause-closed : goal.returns-else-has_low-clause-closed
returns-else-has_low-clause-closed g c =
    let old = c.args.place.now in let same = c.has_low.ensures.same in
    (old, stays_itself old, did_starts old.seat.process [] old.seat.front c.has_low.new.place.seat.front same.1, (0, inl ((same, refl), inr (c.has_low.ensures.no c.if-has_low.false)), none_given c.args.till.now))
