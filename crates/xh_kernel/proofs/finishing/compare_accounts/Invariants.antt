use Rattle.xh_kernel.proofs.Common.{AccountOf, HasSeenAll, get_or, tallies_of, ℕ, ◌<◌, ◌≡◌, ◌≤◌}
use Rattle.xh_kernel.proofs.finishing.compare_accounts.Given as goal

abbrev pub invariant-loop-account : goal.invariant-loop-account
invariant-loop-account g l =
    (l.pens ≡ l.fn.pens) × (l.vault_pens ≡ l.fn.vault_pens) × (tallies_of l.accounts ≡ tallies_of l.fn.accounts)
    × ((k : ℕ) → k < l.account-index → (d : AccountOf) → HasSeenAll l.fn.pens l.fn.vault_pens (get_or l.fn.accounts k d))
    × ((k : ℕ) (d : AccountOf) → l.account-index ≤ k → get_or l.accounts k d ≡ get_or l.fn.accounts k d)
