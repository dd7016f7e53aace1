use Rattle.std.proofs.Common.{arith, if◌then◌else◌, rules, slice_index_or, ℕ, ◌==◌, ◌≡◌}
use Rattle.std.proofs.lemmas.Grind.{common_steps}
use Rattle.std.proofs.lemmas.List.Edits.{map_over_more}
use Rattle.xh_session.specs.declared.bindings.TheConstants.{NOTHING}
use Rattle.xh_session.proofs.bindings.clear.Goals as goal

pub loop-entry-preserved : goal.loop-entry-preserved
loop-entry-preserved c =
    let unless = λ (q : ℕ). if q == c.args.rec then NOTHING else q in
    let next : c.if-entry-rec.entry ≡ unless (slice_index_or c.loop-entry.entries c.loop-entry.entry-index 0) = grind (arith, common_steps) in
    rw next (map_over_more unless _ _ c.loop-entry.entry-index _ (search rules) c.loop-entry.invariant (search rules))
