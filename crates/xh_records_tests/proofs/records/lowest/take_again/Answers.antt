use Rattle.xh_records.specs.Seats.{Held}
use Rattle.xh_records_tests.specs.declared.records.Any.{Any}
use Rattle.xh_records_tests.proofs.OneLot.{gains_one, has_one, seen}
use Rattle.xh_records_tests.proofs.records.lowest.take_again.Goals as goal

pub vacate-requires-clause-held : goal.vacate-requires-clause-held
vacate-requires-clause-held g c =
    let got = c.in-Ok.ensures.claimed in
    let x : Held Any = seen c.claim.new.seat.front c.args.second.now in
    (got.0, has_one x _ x c.in-Ok.low got.0 got.0 (gains_one x _ x c.in-Ok.low got.0 got.0 c.requires.bare got.1.0), got.3)
