use Rattle.xh_books.proofs.Common.{All, IsListed, List, PlaceSeen, bytes_owned, into_iter_items, into_iter_len, length, map, place_lines, sum_by, vec_len, ◌++◌, ◌+◌, ◌≡◌, ◌≤◌}
use Rattle.xh_books.proofs.lines.end_places.Given as goal

abbrev pub invariant-loop-place : goal.invariant-loop-place
invariant-loop-place l =
    let all = l.fn.places.items in let rest = into_iter_items l.place-iterator in
    ((done : List PlaceSeen) × (all ≡ done ++ rest) × (l.seats.items ≡ map (λ p. p.seat) done) × All IsListed done)
    × (l.lines.items ++ place_lines rest ≡ place_lines all)
    × (sum_by (λ x. x.bytes) l.lines.items + bytes_owned rest ≡ bytes_owned all)
    × (vec_len l.seats + into_iter_len l.place-iterator ≡ vec_len l.fn.places)
    × (length l.lines.items + into_iter_len l.place-iterator ≤ vec_len l.fn.places)
