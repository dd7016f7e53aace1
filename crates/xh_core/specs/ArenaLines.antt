-- What a ledger says of an arena.
use Rattle.std.specs.Prelude.{◌-◌, length}
use Rattle.xh_model.specs.Cover.{bytes_out, holes_of}
use Rattle.xh_model.specs.Arena.{ArenaState}
use Rattle.xh_core.specs.declared.ledger.ArenaLine.{ArenaLine}

abbrev pub arena_line : ArenaState → ArenaLine
arena_line a = record {
  size = length a.cover;
  out = bytes_out a.cover;
  holes = length (holes_of a.cover);
  taken = a.wear;
  back = a.wear - bytes_out a.cover;
}
