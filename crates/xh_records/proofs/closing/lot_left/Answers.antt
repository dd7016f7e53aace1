use Rattle.xh_records.proofs.Common.{arith, nat_tests, ◌≡◌, sym, ◌∙◌, slots_items, slot_at, or_else}
use Rattle.xh_records.proofs.Elements.{nth_is}
use Rattle.xh_records.proofs.Ended.{or_is, read_is, is_some}
use Rattle.xh_records.proofs.closing.lot_left.Given.{Over}
use Rattle.xh_records.proofs.closing.lot_left.Goals.{After-or}
use Rattle.xh_records.proofs.closing.lot_left.Goals as goal

-- the lot that was held, or else the one at home
lot_is : (g : Over) (c : After-or g) → c.or.result ≡ or_else (slot_at c.args.held.now.items c.args.slot) (slot_at (slots_items c.args.closed.now.slots) c.args.slot)
lot_is g c = grind (arith, nat_tests, read_is, nth_is, or_is)

pub unwrap-requires : goal.unwrap-requires
unwrap-requires g c = is_some _ c.requires.some_lot.0 (lot_is g (goal.at.unwrap-requires g c).After-or ∙ c.requires.some_lot.1)

pub returns-clause-lot : goal.returns-clause-lot
returns-clause-lot g c = sym (lot_is g (goal.at.returns-clause-lot g c).After-or) ∙ c.unwrap.ensures
