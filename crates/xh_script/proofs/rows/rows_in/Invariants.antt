use Rattle.xh_script.proofs.Common.{Ok, drop, length, map, rows_in, ◌++◌, ◌>>=◌, ◌≡◌}
use Rattle.xh_script.proofs.rows.rows_in.Given as goal

abbrev pub invariant-loop-word : goal.invariant-loop-word
invariant-loop-word l = record {
  rest : rows_in (map (λ w. w.now) l.words) ≡ (rows_in (map (λ w. w.now) (drop l.word-index l.words)) >>= λ more. Ok (l.rows.items ++ more));
  count : length l.rows.items ≡ l.word-index;
}
