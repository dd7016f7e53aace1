use Rattle.xh_books.proofs.Common.{[], drop, ids_of, into_iter_items, into_iter_len, length, take, vault_names, with_all, ◌++◌, ◌+◌, ◌∷◌, ◌≡◌}
use Rattle.xh_books.proofs.collecting.collect_tallies.Given as goal

abbrev pub invariant-loop-tally : goal.invariant-loop-tally
invariant-loop-tally l =
    let rest = l.tally-iterator in let ts = l.fn.tallies.items in
    (l.arena + into_iter_len rest ≡ length l.vaults) × (into_iter_items rest ≡ drop l.arena ts) × (ids_of ts ≡ vault_names l.vaults)
    × (take l.arena l.vaults ++ with_all l.arena (ts ∷ []) (drop l.arena l.vaults) ≡ with_all 0 (ts ∷ []) l.fn.vaults)
