use Rattle.xh_channel.proofs.Common.{arith, rules}
use Rattle.xh_channel.proofs.ClosedSteps.{looks}
use Rattle.xh_channel.proofs.closed_word.ClosedWord.peer_is_shut.Goals as goal

pub load-requires : goal.load-requires
load-requires c = let i = c.self.invariant in (search rules, search rules, looks _ _ _ _ (omega arith))
