use Rattle.std.proofs.Common.{Ok, Some, ap, arith, subst, ℕ, ◌+◌, ◌∙◌, ◌≡◌}
use Rattle.std.proofs.lemmas.List.Elements.{All-pop, All-push, All-same}
use Rattle.xh_heap.specs.Plans.{IsHired}
use Rattle.xh_heap.specs.declared.handle.Handle.{Handle}
use Rattle.xh_kernel.specs.Accounts.{AccountOf, fresh}
use Rattle.xh_kernel.specs.Waits.{SpawnsAt}
use Rattle.xh_kernel.specs.declared.spare.Spare.{Spare}
use Rattle.xh_heap.proofs.running.hire.Goals as goal

pub loop-preserved : goal.loop-preserved
loop-preserved g c =
    let h = c.loop.invariant in let pushed = c.push_reserved.ensures in let parts = g.N.Names.parts in let leads = g.N.Names.leads in let p = c.in_ok-start.field-0 in
    let New = λ (it : Handle g.row.N.Denot g.row.R.Denot g.N.Names). IsHired parts leads it.number it.account.now in
    let left = All-pop (λ (s : Spare g.row.N.Denot). (k : ℕ) × (s.account.now ≡ fresh parts k)) _ _ (Some c.in-Some.spare) c.in-Some.ensures.items h.1 in
    let hired : IsHired parts leads p.number p.account.now = (left.1.0, subst (λ (a : AccountOf). SpawnsAt parts leads a p.account.now (Ok p.number)) left.1.1 c.in_ok-start.ensures.started) in
    (pushed.len ∙ ap (λ n. n + 1) h.0, left.0, All-same New _ _ pushed.items (All-push New _ _ h.2 hired), omega (arith, pushed.capacity, h.3))
