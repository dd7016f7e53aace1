use Rattle.xh_calls.proofs.Common.{AreBundles, [], length, ◌≡◌}
use Rattle.xh_calls.proofs.making.empty_bundles.Given as goal

abbrev pub invariant-loop-number : goal.invariant-loop-number
invariant-loop-number l = (length l.bundles.items ≡ l.number) × AreBundles [] l.bundles.items
