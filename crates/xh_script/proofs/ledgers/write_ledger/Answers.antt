use Rattle.xh_script.proofs.Writings.{WritesOrFails-then, stops}
use Rattle.xh_script.proofs.ledgers.write_ledger.Goals as goal

pub returns-in_err-put_arenas : goal.returns-in_err-put_arenas
returns-in_err-put_arenas g c = stops g.W.Write.contents _ _ _ _ _ _ c.from_residual.ensures.1 (rw c.deref.ensures.0 at c.in_err-put_arenas.ensures)

pub returns-in_err-put_places : goal.returns-in_err-put_places
returns-in_err-put_places g c =
    WritesOrFails-then g.W.Write.contents _ _ _ _ _ _ (rw c.deref.ensures.0 at c.in_ok-put_arenas.ensures)
    (stops g.W.Write.contents _ _ _ _ _ _ c.from_residual-in_err-put_places.ensures.1 (rw c.deref-2.ensures.0 at c.in_err-put_places.ensures))

pub returns : goal.returns
returns g c =
    WritesOrFails-then g.W.Write.contents _ _ _ c.put_sums.result _ _ (rw c.deref.ensures.0 at c.in_ok-put_arenas.ensures)
    (WritesOrFails-then g.W.Write.contents _ _ _ c.put_sums.result _ _ (rw c.deref-2.ensures.0 at c.in_ok-put_places.ensures) c.put_sums.ensures)
