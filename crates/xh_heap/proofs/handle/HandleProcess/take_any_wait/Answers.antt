use Rattle.std.proofs.Common.{refl, ◌∙◌}
use Rattle.xh_heap.proofs.Several.{at_of}
use Rattle.xh_heap.proofs.handle.HandleProcess.take_any_wait.Goals as goal

pub returns-clause-at : goal.returns-clause-at
returns-clause-at g c =
    at_of g.N.Names.leads c.args.self.now.number g.E.AsEnd.shows c.args.ends.now _ (c.as_slice.ensures.value ∙ c.ends_at-recs.ensures) c.take_any_until-told.ensures.calls.1 c.take_any_until-told.new.account c.of.result
    c.take_any_until-told.result c.of.ensures c.take_any_until-told.ensures.calls.3

pub returns-clause-call : goal.returns-clause-call
returns-clause-call g c = (c.as_slice.result.now, c.as_slice.ensures.value ∙ c.ends_at-recs.ensures, (refl, (c.take_any_until-told.result, c.of.ensures, c.take_any_until-told.ensures.calls)))
