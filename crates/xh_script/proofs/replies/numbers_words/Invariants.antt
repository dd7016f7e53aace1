use Rattle.xh_script.proofs.Common.{codes, decimal, length, map, piece_text, take, ◌+◌, ◌∷◌, ◌≡◌}
use Rattle.xh_script.proofs.replies.numbers_words.Given as goal

abbrev pub invariant-loop-number : goal.invariant-loop-number
invariant-loop-number l = record {
  so_far : map piece_text l.words.items ≡ codes "ok" ∷ map decimal (take l.number-index l.numbers);
  count : length l.words.items ≡ 1 + l.number-index;
}
