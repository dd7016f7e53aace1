use Rattle.xh_calls.proofs.Common.{drop, into_iter_items, into_iter_len, vec_len, ◌+◌, ◌≡◌}
use Rattle.xh_calls.proofs.arenas.Arenas.new.Given as goal

abbrev pub invariant-loop-vault : goal.invariant-loop-vault
invariant-loop-vault g l =
    (vec_len l.locks + into_iter_len l.vault-iterator ≡ vec_len l.fn.vaults) × (into_iter_items l.vault-iterator ≡ drop (vec_len l.locks) l.fn.vaults.items)
    × (into_iter_items l.pens ≡ drop (vec_len l.locks) l.fn.pens.items)
