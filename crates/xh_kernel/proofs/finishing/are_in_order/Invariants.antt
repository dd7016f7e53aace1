use Rattle.xh_kernel.proofs.Common.{Entry, PenOf, slice_index_or, ℕ, ◌<◌, ◌≡◌}
use Rattle.xh_kernel.proofs.finishing.are_in_order.Given as goal

abbrev pub invariant-loop-place : goal.invariant-loop-place
invariant-loop-place l = (k : ℕ) (d : PenOf Entry) → k < l.place → (slice_index_or l.pens k d).number ≡ k
