use Rattle.xh_calls.proofs.Vaulted.{entry, theirs}
use Rattle.xh_calls.proofs.arenas.Arenas.enter.Goals as goal

pub returns-clause-entered : goal.returns-clause-entered
returns-clause-entered g c v was = let e = c.add.ensures in entry v _ _ _ _ _ e.pen e.front e.seen was

pub returns-clause-theirs : goal.returns-clause-theirs
returns-clause-theirs g c all = theirs g.N.Names.parts _ _ _ _ c.add.ensures.pen c.requires.tables.1.1 all
