use Rattle.xh_script.proofs.Common.{codes, decimal, length, length_text, map, piece_text, take, ◌+◌, ◌∷◌, ◌≡◌}
use Rattle.xh_script.proofs.replies.taken.Given as goal

abbrev pub invariant-loop-length : goal.invariant-loop-length
invariant-loop-length l = record {
  so_far : map piece_text l.words.items ≡ codes "ok" ∷ decimal l.number ∷ decimal l.tag ∷ map length_text (take l.length-index l.lengths);
  count : length l.words.items ≡ 3 + l.length-index;
}
