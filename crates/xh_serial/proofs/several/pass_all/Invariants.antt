use Rattle.xh_serial.proofs.Common.{drop, pass_all, ◌≡◌}
use Rattle.xh_serial.proofs.several.pass_all.Given as goal

abbrev pub invariant-loop-r : goal.invariant-loop-r
invariant-loop-r l = pass_all l.p l.d (drop l.r-index l.blocks) l.plain ≡ pass_all l.p l.d l.blocks l.fn.plain
