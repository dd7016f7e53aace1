use Rattle.xh_script.proofs.Common.{ap, append_assoc, drop, sym, take, take-append-drop, ◌++◌, ◌∙◌}
use Rattle.xh_script.proofs.Writings.{Writes-then}
use Rattle.xh_script.proofs.writing.put.Goals as goal

pub loop-rest-preserved : goal.loop-rest-preserved
loop-rest-preserved g c =
    let before = c.loop-rest.invariant in
    let rest = c.loop-rest.rest.now in
    let n = c.in-Some.n in
    let whole = before.2 ∙ ap (λ t. before.0 ++ t) (sym (take-append-drop n rest)) ∙ sym (append_assoc before.0 (take n rest) (drop n rest)) in (
      before.0 ++ take n rest,
      Writes-then g.W.Write.contents _ _ _ before.0 (take n rest) before.1 c.in-Some.ensures.some,
      whole ∙ ap (λ t. (before.0 ++ take n rest) ++ t) (sym c.split_at.ensures.back),
    )
