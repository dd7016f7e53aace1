-- The free numbers. The pair of a number that is free stands at its place.
use Rattle.std.specs.Prelude.{◌≡◌, ℕ, ◌<◌, Bool, true, false, ◌==◌, List, Option, Some, None, slice_index_or}
use Rattle.xh_model.specs.declared.limits.TheConstants.{CHANNELS}
use Rattle.xh_channel.specs.declared.free_pair.FreePair.{FreePair}

abbrev pub at_place : List (Option FreePair) → ℕ → Option FreePair
at_place free i = slice_index_or free i None

abbrev pub has_depth : ℕ → Option FreePair → Bool
has_depth depth None = false
has_depth depth (Some p) = p.low.depth == depth

abbrev pub StandAtTheirNumbers : List (Option FreePair) → Type 0
StandAtTheirNumbers free = (i : ℕ) (p : FreePair) → at_place free i ≡ Some p → p.low.spot.channel ≡ i

-- no number is free
abbrev pub NoneFree : ℕ → List (Option FreePair) → Type 0
NoneFree depth free = (i : ℕ) → i < CHANNELS → has_depth depth (at_place free i) ≡ false

-- every number is free, with pairs of one depth
abbrev pub AllFree : List (Option FreePair) → Type 0
AllFree free = (depth : ℕ) × ((i : ℕ) → i < CHANNELS → has_depth depth (at_place free i) ≡ true)
