use Rattle.std.proofs.lemmas.Grind.{common_steps}
use Rattle.xh_kernel.proofs.Common.{Entry, LookOf, PenOf, StartsWith, arith, at, below_more, get_or, subst, ◌≡◌}
use Rattle.xh_kernel.proofs.finishing.compare_look.Goals as goal

pub loop-pen-preserved : goal.loop-pen-preserved
loop-pen-preserved c =
    let l = c.loop-pen in let pens = c.args.pens.now in let look = c.args.look.now in (
      grind (arith, common_steps),
      grind (arith, common_steps),
      below_more (λ k. (d : PenOf Entry) → StartsWith (get_or pens k d).history (at look.fronts (get_or pens k d).number)) l.pen-index l.invariant.2
          (λ d. let same : get_or l.pens l.pen-index c.pen-item.result ≡ get_or pens l.pen-index d = grind (arith, common_steps) in
          subst (λ (z : LookOf Entry × PenOf Entry). StartsWith z.1.history (at z.0.fronts z.1.number)) (λ i. (l.invariant.1 i, same i)) c.compare_look.ensures.begins),
    )
