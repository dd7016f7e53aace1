use Rattle.xh_place.proofs.Common.{refl, rules}
use Rattle.xh_place.proofs.end_lots.fn.shut_at.with_lot.Goals as goal

pub returns : goal.returns
returns g c = record { before = c.in-End.end; after = c.shut.new.end; was = search rules; becomes = refl; did = c.shut.ensures }
