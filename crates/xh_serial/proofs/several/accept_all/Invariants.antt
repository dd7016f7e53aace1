use Rattle.xh_serial.proofs.Common.{accept_all, drop, ◌≡◌}
use Rattle.xh_serial.proofs.several.accept_all.Given as goal

abbrev pub invariant-loop-r : goal.invariant-loop-r
invariant-loop-r l = accept_all l.p l.d (drop l.r-index l.blocks) l.plain ≡ accept_all l.p l.d l.blocks l.fn.plain
