use Rattle.xh_calls.proofs.Common.{IsBundle, TallyOf, [], fresh_tally, into_iter_items, into_iter_len, length, slice_index_or, ℕ, ◌++◌, ◌+◌, ◌<◌, ◌∷◌, ◌≡◌, ◌≤◌}
use Rattle.xh_calls.specs.declared.making.Bundle.{Bundle}
use Rattle.xh_calls.proofs.making.deal_tallies.Given as goal

abbrev pub invariant-loop-tally : goal.invariant-loop-tally
invariant-loop-tally l =
    let rest = l.tally-iterator in let zs = l.fn.names in let z = l.fn.vault.id in
    (l.number + into_iter_len rest ≡ length l.bundles) × (length l.bundles ≡ length l.fn.bundles)
    × ((k : ℕ) (d : Bundle) → k < l.number → IsBundle (zs ++ z ∷ []) k (slice_index_or l.bundles k d))
    × ((k : ℕ) (d : Bundle) → l.number ≤ k → k < length l.bundles → IsBundle zs k (slice_index_or l.bundles k d))
    × ((k : ℕ) (d : TallyOf) → k < into_iter_len rest → slice_index_or (into_iter_items rest) k d ≡ fresh_tally (l.number + k) z)
