use Rattle.xh_records.proofs.Common.{nat_tests, arith, ◌≡◌, ℕ, suc, ◌+◌, ◌-◌, ◌<◌, ap, ◌∙◌, length-append, dealer}
use Rattle.xh_records.proofs.Cuts.{deals}
use Rattle.xh_records.proofs.Elements.{snoc_at}
use Rattle.xh_records.proofs.Seating.{seat_is}
use Rattle.xh_records.proofs.making.seats_of.Goals as goal

-- of the places that are left one is the next
one_left : (count k : ℕ) → k < count → count - k ≡ suc (count - (k + 1))
one_left count k below = omega arith

pub split_seat-token-requires : goal.split_seat-token-requires
split_seat-token-requires g c =
    let i = c.loop-place.invariant in let p : ℕ = c.loop-place.place in let all : ℕ = c.args.places in let key = c.args.board.now.key in
    (i.here, c.requires.own.1, deals g.B.Fits.is_fit key _ _ (key, p, all - (p + 1), i.view ∙ ap (dealer key p) (one_left all p c.loop-place-test.true)))

pub invariant_of-push_reserved : goal.invariant_of-push_reserved
invariant_of-push_reserved g c = grind (arith, nat_tests, one_left, seat_is)

pub loop-place-preserved : goal.loop-place-preserved
loop-place-preserved g c = grind (arith, nat_tests, one_left, length-append, snoc_at)
