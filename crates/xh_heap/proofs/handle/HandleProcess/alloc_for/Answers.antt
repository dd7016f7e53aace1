use Rattle.std.proofs.Common.{refl, zero}
use Rattle.xh_heap.proofs.handle.HandleProcess.alloc_for.Goals as goal

pub returns-in_default : goal.returns-in_default
returns-in_default g c = let e = c.alloc_in.ensures in (e.0, (e.1.0, e.1.1, (zero, c.args.self.now.account.now, refl, e.1.2)))
