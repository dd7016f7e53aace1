use Rattle.xh_script.proofs.Writings.{WritesOrFails-then, stops}
use Rattle.xh_script.proofs.ledgers.put_sums.Goals as goal

pub returns-in_err-put_sum : goal.returns-in_err-put_sum
returns-in_err-put_sum g c = stops g.W.Write.contents _ _ _ _ _ _ c.from_residual.ensures.1 c.in_err-put_sum.ensures

pub returns-in_err-put_sum-2 : goal.returns-in_err-put_sum-2
returns-in_err-put_sum-2 g c =
    WritesOrFails-then g.W.Write.contents _ _ _ _ _ _ c.in_ok-put_sum.ensures (stops g.W.Write.contents _ _ _ _ _ _ c.from_residual-in_err-put_sum-2.ensures.1 c.in_err-put_sum-2.ensures)

pub returns : goal.returns
returns g c =
    WritesOrFails-then g.W.Write.contents _ _ _ c.put_sum-3.result _ _ c.in_ok-put_sum.ensures
    (WritesOrFails-then g.W.Write.contents _ _ _ c.put_sum-3.result _ _ c.in_ok-put_sum-2.ensures c.put_sum-3.ensures)
