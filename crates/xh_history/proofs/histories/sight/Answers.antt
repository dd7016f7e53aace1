use Rattle.std.proofs.Common.{arith}
use Rattle.xh_history.proofs.Keeping.{looks}
use Rattle.xh_history.proofs.histories.sight.Goals as goal

pub load-requires : goal.load-requires
load-requires g c =
    let w = c.word_at.ensures in let place = c.requires.place in (
      c.requires.table.0,
      omega (arith, w.word, place.0, c.requires.table.1),
      looks g.S.Shows.shows _ _ c.word_at.result _ _ (omega (arith, w.word, w.place)) (omega (arith, w.place, place.0)) place.1,
    )

pub returns : goal.returns
returns g c = (c.load.ensures.0, rw c.word_at.ensures.place at c.load.ensures.2)
