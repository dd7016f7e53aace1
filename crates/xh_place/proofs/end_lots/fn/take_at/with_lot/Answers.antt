use Rattle.xh_place.proofs.Common.{refl, rules}
use Rattle.xh_place.proofs.end_lots.fn.take_at.with_lot.Goals as goal

pub returns-in-End : goal.returns-in-End
returns-in-End g c = record {
  lot = record { before = c.in-End.end; after = c.take.new.end; was = search rules; becomes = refl; did = c.take.ensures.taken };
  direction = search rules;
}
