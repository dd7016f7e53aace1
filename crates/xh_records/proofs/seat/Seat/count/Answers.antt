use Rattle.xh_records.proofs.Common.{arith, nat_tests, length-keys}
use Rattle.xh_records.proofs.Lists.{few}
use Rattle.xh_records.proofs.Numbered.{length-numbered, own_record}
use Rattle.xh_records.proofs.seat.Seat.count.Goals as goal

pub returns-clause-count : goal.returns-clause-count
returns-clause-count g c = grind (arith, nat_tests, length-keys, length-numbered)

pub returns-clause-few : goal.returns-clause-few
returns-clause-few g c = grind (arith, nat_tests, few)

pub returns-clause-lots : goal.returns-clause-lots
returns-clause-lots g c = grind (arith, nat_tests, own_record)
