use Rattle.xh_kernel.proofs.Common.{All, Entry, LookOf, into_iter_items, ◌≡◌}
use Rattle.xh_kernel.proofs.Compared.{LookSaw}
use Rattle.xh_kernel.proofs.finishing.compare_looks.Given as goal

abbrev pub invariant-loop-look : goal.invariant-loop-look
invariant-loop-look l =
    let rest = into_iter_items l.look-iterator in let Looked = LookSaw l.fn.pens in
    (l.pens ≡ l.fn.pens)
    × All (λ (x : LookOf Entry). x.table ≡ l.fn.histories) rest
    × (All Looked rest → All Looked l.fn.looks.items)
