use Rattle.xh_kernel.proofs.Common.{length, vec_len, ◌≡◌}
use Rattle.xh_kernel.proofs.kernel.lock_places.Given as goal

abbrev pub invariant-loop-seat : goal.invariant-loop-seat
invariant-loop-seat g l = vec_len l.locks ≡ length l.yielded
