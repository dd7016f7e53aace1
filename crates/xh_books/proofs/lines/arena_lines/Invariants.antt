use Rattle.xh_books.proofs.Common.{All, all_lengths, closed_line, length, map, sum, sum_by, take, ◌+◌, ◌≡◌}
use Rattle.xh_books.proofs.lines.arena_lines.Given as goal

abbrev pub invariant-loop-vault : goal.invariant-loop-vault
invariant-loop-vault l =
    let done = take l.vault-index l.vaults in
    (l.lines.items ≡ map closed_line done) × (length l.lines.items ≡ l.vault-index) × All (λ a. a.taken ≡ a.back + a.out) l.lines.items
    × (sum_by (λ a. a.out) l.lines.items ≡ sum (all_lengths done))
