use Rattle.xh_kernel.proofs.Common.{All, All-cons, All-tail, Entry, List, LookOf, PenOf, into_iter_items, refl, subst, sym, ◌∙◌, ◌≡◌}
use Rattle.xh_kernel.proofs.Compared.{LookSaw}
use Rattle.xh_kernel.proofs.finishing.compare_looks.Goals as goal

pub loop-look-init : goal.loop-look-init
loop-look-init c =
    let all = c.into_iter-look-iterator.ensures.into_iter_gives.0 in
    (refl, subst (All (λ (x : LookOf Entry). x.table ≡ c.args.histories.now)) (sym all) c.requires.looks, subst (All (LookSaw c.args.pens.now)) all)

pub loop-look-preserved : goal.loop-look-preserved
loop-look-preserved c =
    let l = c.loop-look in let rest = into_iter_items c.next.new.self in let step = sym c.in-Some.ensures.steps.0 in
    let Looked = LookSaw c.args.pens.now in
    let here = subst (λ (ps : List (PenOf Entry)). LookSaw ps c.in-Some.look) l.invariant.0 c.compare_look.ensures.looked in (
      c.compare_look.ensures.same.0 ∙ l.invariant.0,
      All-tail (λ (x : LookOf Entry). x.table ≡ c.args.histories.now) c.in-Some.look rest (subst (All (λ (x : LookOf Entry). x.table ≡ c.args.histories.now)) (sym step) l.invariant.1),
      λ all. l.invariant.2 (subst (All Looked) step (All-cons Looked c.in-Some.look rest here all)),
    )
