use Rattle.std.proofs.Common.{sym, ◌∙◌}
use Rattle.std.proofs.lemmas.List.{length-map}
use Rattle.std.proofs.lemmas.List.Elements.{All-map}
use Rattle.std.proofs.lemmas.Result.{IfOk-weaker}
use Rattle.xh_heap.specs.Handles.{HandleOf}
use Rattle.xh_heap.specs.Plans.{IsHired}
use Rattle.xh_heap.proofs.running.work_on.Goals as goal

pub returns-clause-planned : goal.returns-clause-planned
returns-clause-planned g c =
    let new = All-map (λ (h : HandleOf). IsHired g.N.Names.parts g.N.Names.leads h.number h.account) _ _ c.in_ok-all.ensures.new in
    let len = length-map _ _ ∙ (sym c.in_ok-all.all.ok.0 ∙ c.in_ok-all.ensures.count) in
    IfOk-weaker c.work_by.result _ _ (λ w h. (_, h.0, len, new, h.1)) c.work_by.ensures.planned
