-- The tallies that a worker begins with.
use Rattle.std.specs.Prelude.{ℕ}
use Rattle.atomic_table.specs.Seated.{TableId}
use Rattle.xh_arena.specs.Views.{TallyOf}

-- the tally of the worker k for a vault, with nothing taken
abbrev pub fresh_tally : ℕ → TableId → TallyOf
fresh_tally k z = record { id = z; number = k; taken = 0; back = 0 }
