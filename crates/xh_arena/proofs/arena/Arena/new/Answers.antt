use Rattle.xh_arena.proofs.Common.{◌≤◌, refl, arith, rules, length-replicate, AreLimits, none_of}
use Rattle.xh_arena.proofs.Kept.{kept-lawful}
use Rattle.xh_arena.proofs.Steps.{new-kept, new-cover}
use Rattle.xh_arena.proofs.arena.Arena.new.Goals as goal

pub invariant_of-result : goal.invariant_of-result
invariant_of-result c =
    let l = c.if-not-is_in_arena_limits.ensures in let m = c.if-not-is_in_arena_limits.false in
    let limits : AreLimits c.args.size c.args.records c.args.wear = search rules in
    let some : 16 ≤ c.args.size = limits.some_bytes in
    rw (c.in-Ok.ensures, c.one_hole.ensures) (record {
      kept = new-kept c.args.size c.from.result (omega arith) limits.multiple;
      worn = omega arith;
      limits = rw (length-replicate, c.from.ensures) limits;
    })

pub returns-clause-fresh : goal.returns-clause-fresh
returns-clause-fresh c = rw (c.in-Ok.ensures, new-cover, length-replicate, c.from.ensures) refl

pub returns-clause-lawful : goal.returns-clause-lawful
returns-clause-lawful c = kept-lawful _ _ _ _ (invariant_of-result c).kept _ _

pub returns-clause-empty : goal.returns-clause-empty
returns-clause-empty c = λ r. rw (c.in-Ok.ensures, new-cover) (none_of r c.args.size)
