use Rattle.std.proofs.Common.{refl, zero, ◌∙◌}
use Rattle.xh_heap.proofs.Several.{at_of}
use Rattle.xh_heap.proofs.handle.HandleProcess.take_any_for.Goals as goal

pub returns-clause-at : goal.returns-clause-at
returns-clause-at g c =
    at_of g.N.Names.leads c.args.self.now.number g.E.AsEnd.shows c.args.ends.now _ (c.as_slice-looked.ensures.value ∙ c.ends_at-recs.ensures) c.take_any_until-told.ensures.calls.1 c.take_any_until-told.new.account c.of.result
    c.take_any_until-told.result c.of.ensures c.take_any_until-told.ensures.calls.3

pub returns-in_default-clause-call : goal.returns-in_default-clause-call
returns-in_default-clause-call g c =
    let e = c.take_any.ensures.call in (e.0, e.1, (e.2.0, (e.2.1.0, e.2.1.1, (zero, c.args.self.now.account.now, refl, e.2.1.2))))

pub returns-clause-call : goal.returns-clause-call
returns-clause-call g c = (c.as_slice-looked.result.now, c.as_slice-looked.ensures.value ∙ c.ends_at-recs.ensures, (refl, (c.take_any_until-told.result, c.of.ensures, c.take_any_until-told.ensures.calls)))
