use Rattle.xh_script.proofs.Common.{is_filled, list_all, map, take, true, ◌≡◌}
use Rattle.xh_script.proofs.line.are_filled.Given as goal

abbrev pub invariant-loop-word : goal.invariant-loop-word
invariant-loop-word l = list_all is_filled (map (λ w. w.now) (take l.word-index l.words)) ≡ true
