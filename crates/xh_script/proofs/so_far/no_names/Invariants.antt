use Rattle.xh_script.proofs.Common.{[], replicate, ◌≡◌}
use Rattle.xh_script.proofs.so_far.no_names.Given as goal

abbrev pub invariant-loop-made : goal.invariant-loop-made
invariant-loop-made l = l.blocks.items ≡ replicate l.made []
