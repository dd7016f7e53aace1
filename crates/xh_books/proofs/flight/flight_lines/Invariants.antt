use Rattle.xh_books.proofs.Common.{filter, flight_line, length, lens_of, map, nat_lt, range_with_len, zip, ◌≡◌, ◌≤◌}
use Rattle.xh_books.proofs.flight.flight_lines.Given as goal

abbrev pub invariant-loop-direction : goal.invariant-loop-direction
invariant-loop-direction l =
    (l.lines.items ≡ filter (λ x. nat_lt 0 x.blocks) (map (flight_line (zip l.fn.words (lens_of l.fn.lots))) (range_with_len 0 l.direction)))
    × (length l.lines.items ≤ l.direction)
