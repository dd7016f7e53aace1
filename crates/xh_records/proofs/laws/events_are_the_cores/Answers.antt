use Rattle.xh_records.proofs.After.{on_stores}
use Rattle.xh_records.proofs.laws.events_are_the_cores.Goals as goal

pub returns : goal.returns
returns c = on_stores
