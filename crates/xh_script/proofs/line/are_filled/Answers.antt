use Rattle.xh_script.proofs.Common.{[], arith, is_filled, nat_tests, sym, ◌∙◌}
use Rattle.std.proofs.lemmas.List.Folds.{list_all-map, list_all_at}
use Rattle.xh_script.proofs.line.are_filled.Goals as goal

pub returns-then-is_empty : goal.returns-then-is_empty
returns-then-is_empty c =
    sym (list_all-map is_filled (λ w. w.now) c.args.words.now
    ∙ list_all_at (λ w. is_filled w.now) c.args.words.now c.loop-word.word-index (record { ref_ptr = (0, 0); now = [] }) c.loop-word-test.true (grind (arith, nat_tests)))
