use Rattle.xh_channel.proofs.Common.{rules}
use Rattle.xh_channel.proofs.ClosedSteps.{shown}
use Rattle.xh_channel.proofs.closed_word.ClosedWord.hear.Goals as goal

pub load-requires : goal.load-requires
load-requires c = (search rules, search rules, shown _ _ _ _)
