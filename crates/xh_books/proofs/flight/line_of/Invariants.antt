use Rattle.xh_books.proofs.Common.{cond, count_by, lens_of, sum_by, take, zip, ◌*◌, ◌+◌, ◌==◌, ◌≡◌, ◌≤◌}
use Rattle.xh_books.proofs.flight.line_of.Given as goal

abbrev pub invariant-loop-k : goal.invariant-loop-k
invariant-loop-k l =
    let all = take l.k (zip l.fn.words (lens_of l.fn.lots)) in
    (l.blocks ≡ count_by (λ r. r.0 == 2 + 4 * l.fn.direction) all) × (l.bytes ≡ sum_by (λ r. cond (r.0 == 2 + 4 * l.fn.direction) r.1 0) all)
    × (l.blocks ≤ l.k) × (l.bytes ≤ l.k * 4294967295)
