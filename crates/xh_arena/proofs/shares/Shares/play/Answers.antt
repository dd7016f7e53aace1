use Rattle.std.proofs.Common.{arith}
use Rattle.xh_arena.proofs.Moves.{changes}
use Rattle.xh_arena.proofs.shares.Shares.play.Goals as goal

pub load-requires : goal.load-requires
load-requires g c = let i = c.self.invariant in (i.0, omega arith, changes g.C.Change.change _ _ _ g.C.Change.keeps)
