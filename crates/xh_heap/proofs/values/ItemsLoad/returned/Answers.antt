use Rattle.std.proofs.Common.{ap, rules}
use Rattle.arrayvec.proofs.ArrayVecLemmas.{filter-from_retain}
use Rattle.xh_heap.specs.Values.{is_back, item_at}
use Rattle.xh_heap.proofs.values.ItemsLoad.returned.Goals as goal

pub returns : goal.returns
returns c = ap (λ all. record { items = all })
    (filter-from_retain _ (λ i. is_back c.args.why.now (item_at c.args.p i)) _ (λ x b f' y called. search rules) _ _ c.retain.ensures.filtered)
