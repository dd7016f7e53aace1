use Rattle.xh_calls.proofs.Common.{AreBundles, AreMakings, vec_len, ◌≡◌}
use Rattle.xh_calls.proofs.making.make_vaults.Given as goal

abbrev pub invariant-loop : goal.invariant-loop
invariant-loop l =
    (vec_len l.makings.vaults ≡ l.counter) × (vec_len l.makings.bundles ≡ l.workers)
    × AreMakings l.workers l.config.records l.config.bytes l.config.wear l.makings.vaults.items l.makings.lots.items l.makings.names
    × AreBundles l.makings.names l.makings.bundles.items
