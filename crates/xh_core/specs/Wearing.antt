-- What arenas have handed out, and what they have carved.
use Rattle.std.specs.Prelude.{◌≤◌, All}
use Rattle.xh_model.specs.Cover.{bytes_out}
use Rattle.xh_model.specs.Arena.{ArenaState}
use Rattle.xh_model.specs.Store.{Store}

-- each byte that an arena has handed out was carved, so that the bytes given back are the difference
abbrev pub IsWithinWear : ArenaState → Type 0
IsWithinWear a = bytes_out a.cover ≤ a.wear

abbrev pub AreCarved : Store → Type 0
AreCarved s = All IsWithinWear s.arenas
