use Rattle.xh_kernel.proofs.Common.{AreKept, into_iter_len, vec_len, ◌+◌, ◌≡◌}
use Rattle.xh_kernel.proofs.kernel.unlock_places.Given as goal

abbrev pub invariant-loop-lock : goal.invariant-loop-lock
invariant-loop-lock g l =
    (vec_len l.places + into_iter_len l.lock-iterator ≡ vec_len l.fn.locks)
    × AreKept g.N.Names.parts l.places.items l.pens.items
