use Rattle.std.specs.Prelude.{ℕ}
use Rattle.xh_arena.specs.declared.refused.Refused.{Refused}
use Rattle.xh_arena.specs.declared.refused.Refused.TheVariants.{NoSpace, Worn, BadSize, OutOfMemory, BadCut}
use Rattle.xh_model.specs.Arena.{ArenaState, HasNoSpace, IsWorn}

-- why n bytes cannot be carved of an arena: for these two reasons, and for nothing else
abbrev pub RefusesCarve : ℕ → ArenaState → Refused → Type 0
RefusesCarve n arena NoSpace = HasNoSpace n arena
RefusesCarve n arena Worn = IsWorn n arena
RefusesCarve n arena BadSize = ⊥
RefusesCarve n arena OutOfMemory = ⊥
RefusesCarve n arena BadCut = ⊥
