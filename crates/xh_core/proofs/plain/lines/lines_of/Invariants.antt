use Rattle.xh_core.proofs.Common.{All, map, take, ◌+◌, ◌≡◌}
use Rattle.xh_core.specs.ArenaLines.{arena_line}
use Rattle.xh_core.proofs.plain.lines.lines_of.Given as goal

abbrev pub invariant-loop-arena : goal.invariant-loop-arena
invariant-loop-arena l = (l.lines.items ≡ map arena_line (take l.arena-index l.arenas)) × All (λ line. line.out + line.back ≡ line.taken) l.lines.items
