use Rattle.xh_script.proofs.Common.{check_from, drop, map, ◌≡◌}
use Rattle.xh_script.proofs.line.check_all.Given as goal

abbrev pub invariant-loop-i : goal.invariant-loop-i
invariant-loop-i l = check_from l.shape 0 (map (λ w. w.now) l.words) ≡ check_from l.shape l.i (map (λ w. w.now) (drop l.i l.words))
