use Rattle.xh_books.proofs.Common.{FlightLine, arith, common_steps, flight_line, lens_of, nat_lt, nat_tests, zip, ◌≡◌}
use Rattle.std.proofs.lemmas.List.FromFn.{filter_of_map_range_with_len_more}
use Rattle.xh_books.proofs.flight.flight_lines.Goals.{else-line-gt0, then-line-gt0}
use Rattle.xh_books.proofs.flight.flight_lines.Goals as goal

pub loop-direction-preserved : goal.loop-direction-preserved
loop-direction-preserved c =
    let all = zip c.args.words.now (lens_of c.args.lots.now) in let d = c.loop-direction.direction in
    let more = filter_of_map_range_with_len_more (λ (x : FlightLine). nat_lt 0 x.blocks) (flight_line all) 0 d d (omega arith) in
    let is = c.line_of-line.ensures in
    elim c.if-line-gt0.branch [ then-line-gt0 w ↦ grind (arith, common_steps, nat_tests, more, is) | else-line-gt0 w ↦ grind (arith, common_steps, nat_tests, more, is) ]

pub returns : goal.returns
returns c = let end : c.loop-direction.direction ≡ 128 = omega arith in rw end at c.loop-direction.invariant.0
