use Rattle.std.proofs.Common.{sym, ◌∙◌}
use Rattle.xh_model.proofs.Sums.{lawful-bytes_out}
use Rattle.xh_arena.proofs.Kept.{kept-lawful}
use Rattle.xh_arena.proofs.arena.Arena.handed_out.Goals as goal

pub returns-clause-sum : goal.returns-clause-sum
returns-clause-sum c =
    rw (← c.self.view_is) (c.self.invariant.kept.counted ∙ sym (lawful-bytes_out _ (kept-lawful _ _ _ _ c.self.invariant.kept c.self.inside.wear c.self.inside.limit)))
