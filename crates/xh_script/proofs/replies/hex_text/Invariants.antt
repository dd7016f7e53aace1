use Rattle.xh_script.proofs.Common.{drop, hex_text, length, ◌*◌, ◌++◌, ◌≡◌}
use Rattle.xh_script.proofs.replies.hex_text.Given as goal

abbrev pub invariant-loop-b : goal.invariant-loop-b
invariant-loop-b l = record {
  so_far : hex_text l.bytes ≡ l.digits.items ++ hex_text (drop l.b-index l.bytes);
  count : length l.digits.items ≡ 2 * l.b-index;
}
