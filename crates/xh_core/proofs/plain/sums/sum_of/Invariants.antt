use Rattle.xh_core.proofs.Common.{bytes_out, sum_by, take, ◌*◌, ◌≡◌, ◌≤◌}
use Rattle.xh_core.proofs.plain.sums.sum_of.Given as goal

abbrev pub invariant-loop-arena : goal.invariant-loop-arena
invariant-loop-arena l = record {
  sum : l.sum ≡ sum_by (λ a. bytes_out a.cover) (take l.arena-index l.arenas);
  small : l.sum ≤ l.arena-index * 4294967295;
}
