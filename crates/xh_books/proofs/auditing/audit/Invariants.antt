use Rattle.xh_books.proofs.Common.{all_lengths, get_or, lens_of, ℕ, ◌<◌, ◌≡◌}
use Rattle.xh_books.proofs.auditing.audit.Given as goal

abbrev pub invariant-loop-k : goal.invariant-loop-k
invariant-loop-k l =
    (l.vaults ≡ l.fn.vaults) × (l.lots ≡ l.fn.lots)
    × ((i : ℕ) → i < l.k → (d : ℕ) → get_or (lens_of l.fn.lots) i d ≡ get_or (all_lengths l.fn.vaults) i d)
