use Rattle.xh_books.proofs.Common.{into_iter_items, tallies_of, vault_names, with_all, ◌≡◌}
use Rattle.xh_books.proofs.collecting.gather.Given as goal

abbrev pub invariant-loop-account : goal.invariant-loop-account
invariant-loop-account g l =
    (vault_names l.vaults.items ≡ g.N.Names.parts.records.shape.names)
    × (with_all 0 (tallies_of (into_iter_items l.account-iterator)) l.vaults.items ≡ with_all 0 (tallies_of l.fn.accounts.items) l.fn.vaults.items)
