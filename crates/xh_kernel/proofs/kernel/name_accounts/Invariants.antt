use Rattle.xh_kernel.proofs.Common.{AreFresh, Entry, FrontOf, IsBundle, VaultOf, fresh_front, into_iter_items, into_iter_len, slice_index_or, vec_len, ℕ, ◌+◌, ◌<◌, ◌≡◌}
use Rattle.xh_calls.specs.declared.making.Bundle.{Bundle}
use Rattle.xh_kernel.proofs.kernel.name_accounts.Given as goal

abbrev pub invariant-loop-bundle : goal.invariant-loop-bundle
invariant-loop-bundle g l =
    let done = vec_len l.accounts in let rest = l.bundle-iterator in
    (done + into_iter_len rest ≡ vec_len l.fn.bundles) × (into_iter_len l.left ≡ into_iter_len rest)
    × ((k : ℕ) (d : Bundle) → k < into_iter_len rest → IsBundle g.N.Names.parts.records.shape.names (done + k) (slice_index_or (into_iter_items rest) k d))
    × ((k : ℕ) (d : FrontOf Entry) → k < into_iter_len l.left → slice_index_or (into_iter_items l.left) k d ≡ fresh_front g.N.Names.parts.histories (done + k))
    × (into_iter_len l.unseen ≡ into_iter_len rest)
    × ((k : ℕ) (d : FrontOf VaultOf) → k < into_iter_len l.unseen → slice_index_or (into_iter_items l.unseen) k d ≡ fresh_front g.N.Names.parts.vaults (done + k))
    × AreFresh g.N.Names.parts l.accounts.items
