use Rattle.xh_records.proofs.Common.{ap}
use Rattle.xh_records.proofs.Elements.{in_range}
use Rattle.xh_records.proofs.Lists.{turned_by}
use Rattle.xh_records.proofs.token.turn_to.Goals as goal

pub returns : goal.returns
returns g c =
    let at = c.plain_position-k.ensures in let m = c.turn_by.ensures in record {
      same = (m.0, m.1, ap (λ z. z.0) m.2);
      place = (in_range _ _ _ at, at);
      turned = turned_by _ _ _ c.plain_position-k.result c.args.slot c.requires at (ap (λ z. z.1) m.2);
    }
