use Rattle.std.proofs.Common.{Option, subst, sym, List}
use Rattle.xh_heap.specs.Teams.{OpensOwn}
use Rattle.xh_model.specs.declared.row.Row.{Row}
use Rattle.xh_heap.proofs.job.open_by.Goals as goal

pub returns-in-Some : goal.returns-in-Some
returns-in-Some g c =
    subst (λ (z : Option (List Row)). OpensOwn g.P.Process.parts g.P.Process.leads z (g.P.Process.handle c.args.own.now) (g.P.Process.handle c.open_with.new.self) c.open_with.result) (sym c.in-Some.is)
    c.open_with.ensures

pub returns-in-None : goal.returns-in-None
returns-in-None g c =
    subst (λ (z : Option (List Row)). OpensOwn g.P.Process.parts g.P.Process.leads z (g.P.Process.handle c.args.own.now) (g.P.Process.handle c.open.new.self) c.open.result) (sym c.in-None.is)
    c.open.ensures
