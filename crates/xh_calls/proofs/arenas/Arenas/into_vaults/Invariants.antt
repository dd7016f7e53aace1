use Rattle.std.specs.List.{AllZip}
use Rattle.xh_calls.proofs.Common.{IsKeptVault, into_iter_len, length, take, vault_names, vec_len, ◌+◌, ◌≡◌}
use Rattle.xh_calls.specs.Vaults.{AreInOrder}
use Rattle.xh_calls.proofs.arenas.Arenas.into_vaults.Given as goal

abbrev pub invariant-loop-lock : goal.invariant-loop-lock
invariant-loop-lock g l =
    let parts = g.N.Names.parts in let names = parts.records.shape.names in
    (vec_len l.vaults + into_iter_len l.lock-iterator ≡ length names) × (vault_names l.vaults.items ≡ take (vec_len l.vaults) names)
    × AllZip (IsKeptVault parts) l.vaults.items l.pens.items × AreInOrder l.pens.items
