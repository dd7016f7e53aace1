use Rattle.xh_channel.proofs.Common.{rules}
use Rattle.xh_channel.proofs.FreePairs.{placed_some}
use Rattle.xh_channel.proofs.free_numbers.FreeNumbers.cancel.Goals as goal

pub invariant_of-self : goal.invariant_of-self
invariant_of-self c = record { placed = (search rules, placed_some _ _ _ (search rules) (search rules)) }
