use Rattle.std.proofs.Common.{vec_len}
use Rattle.std.specs.Vec.{vec_capacity}
use Rattle.std.specs.Vec.Iter.{into_iter_len}
use Rattle.xh_runner.proofs.Common.{PLACES, into_iter_items, map, ◌+◌, ◌++◌, ◌∷◌, ◌≡◌, ◌≤◌}
use Rattle.xh_runner.proofs.replies.parts_of.Given as goal

abbrev pub invariant-loop-done : goal.invariant-loop-done
invariant-loop-done g l = record {
  machines : l.machines.items ++ map (λ done. done.machine) (into_iter_items l.done-iterator) ≡ map (λ done. done.machine) l.fn.dones.items;
  parts : map into_iter_items l.parts.items ++ map (λ done. done.replies.items) (into_iter_items l.done-iterator) ≡ l.fn.first.items ∷ map (λ done. done.replies.items) l.fn.dones.items;
  count : (vec_len l.machines + into_iter_len l.done-iterator ≤ PLACES) × (vec_len l.parts ≡ vec_len l.machines + 1);
  room : (PLACES + 1 ≤ vec_capacity l.machines) × (PLACES + 2 ≤ vec_capacity l.parts);
}
