use Rattle.xh_script.proofs.Common.{are_known, drop, map, ◌≡◌}
use Rattle.xh_script.proofs.so_far.SoFar.are_known.Given as goal

abbrev pub invariant-loop-i : goal.invariant-loop-i
invariant-loop-i l = are_known l.self l.shape 0 (map (λ w. w.now) l.words) ≡ are_known l.self l.shape l.i (map (λ w. w.now) (drop l.i l.words))
