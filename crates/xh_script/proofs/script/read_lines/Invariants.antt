use Rattle.xh_script.proofs.Common.{MAX_SCRIPT, after_lines, drop, length, map, nothing_read, slice_split, ◌+◌, ◌==◌, ◌≡◌, ◌≤◌}
use Rattle.xh_script.proofs.script.read_lines.Given as goal

abbrev pub invariant-loop-i : goal.invariant-loop-i
invariant-loop-i l = record {
  rest : after_lines l.so_far (l.i + 1) (map (λ w. w.now) (drop l.i l.line-items)) ≡ after_lines nothing_read 1 (slice_split (λ b. b == 10) l.text);
  short : length l.line-items ≤ MAX_SCRIPT + 1;
}
