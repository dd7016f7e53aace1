use Rattle.xh_place.proofs.Common.{EndpointPuts, refl, rules, subst}
use Rattle.xh_place.proofs.end_lots.fn.put_at.with_lot.Goals as goal

pub returns : goal.returns
returns g c = record {
  before = c.in-End.end;
  after = c.put.new.end;
  was = search rules;
  becomes = refl;
  did = subst (λ b. EndpointPuts c.captures.tag b c.put.result c.in-End.end c.put.new.end) c.listed.ensures c.put.ensures.put;
}
