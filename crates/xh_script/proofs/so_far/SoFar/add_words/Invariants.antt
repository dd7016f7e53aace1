use Rattle.xh_script.proofs.Common.{MAX_PROCESSES, Ok, drop, length, map, words_in, ◌++◌, ◌<◌, ◌>>=◌, ◌≡◌}
use Rattle.xh_script.proofs.so_far.SoFar.add_words.Given as goal

abbrev pub invariant-loop-i : goal.invariant-loop-i
invariant-loop-i l = record {
  rest : words_in l.fn.self 0 l.shape 0 (map (λ w. w.now) l.words) ≡ (words_in l.self l.process l.shape l.i (map (λ w. w.now) (drop l.i l.words)) >>= λ more. Ok (l.said.items ++ more.0, more.1));
  count : length l.said.items ≡ l.i;
  known : l.process < MAX_PROCESSES;
}
