use Rattle.xh_channel.proofs.Common.{rules}
use Rattle.xh_channel.proofs.ClosedSteps.{shuts_at}
use Rattle.xh_channel.proofs.closed_word.ClosedWord.shut.Goals as goal

pub store-requires : goal.store-requires
store-requires c = let i = c.self.invariant in (search rules, search rules, shuts_at _ _ _ _ i.from i.upto)
