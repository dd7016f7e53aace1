use Rattle.xh_kernel.proofs.Common.{rules, total_of, ◌≤◌}
use Rattle.xh_kernel.proofs.scribe.shown.Goals as goal

pub returns-clause-bounds : goal.returns-clause-bounds
returns-clause-bounds c =
    let sum : total_of c.args.place.now ≤ 274877906944 = c.total.ensures.blocks.sum in
    (search rules, search rules)
