use Rattle.xh_calls.proofs.Common.{[], rules, status_at}
use Rattle.xh_calls.proofs.Asking.{asked}
use Rattle.xh_calls.proofs.Started.{unmade}
use Rattle.xh_calls.specs.Calls.{space_of}
use Rattle.xh_core.specs.Space.{rounded}
use Rattle.xh_calls.proofs.heap.Heap.alloc.Goals as goal

pub returns-in_err-check_number-clause-made : goal.returns-in_err-check_number-clause-made
returns-in_err-check_number-clause-made g c =
    let place = c.args.place.now in
    unmade (status_at c.args.p place) (space_of g.N.Names.parts) c.args.n [] c.args.arena place c.from_residual.result _ c.in_err-check_number.ensures.unstarted (search rules)

pub returns-clause-refused : goal.returns-clause-refused
returns-clause-refused g c =
    let e = c.alloc-answer.ensures in
    asked g.N.Names.parts c.args.arena (rounded c.args.n) c.lend-desk.result.vaults c.alloc-answer.new.desk.vaults (λ l. l.till) c.lend-desk.ensures.1 c.end.ensures.0 _ _ _ _ _ _
    c.alloc-answer.result e.untouched e.made.why
