use Rattle.xh_script.proofs.Common.{drop, hex_bytes, length, ◌*◌, ◌++◌, ◌≡◌}
use Rattle.xh_script.proofs.hex.hex_bytes.Given as goal

abbrev pub invariant-loop-i : goal.invariant-loop-i
invariant-loop-i l = record {
  so_far : hex_bytes l.word ≡ l.bytes.items ++ hex_bytes (drop (2 * l.i) l.word);
  count : length l.bytes.items ≡ l.i;
}
