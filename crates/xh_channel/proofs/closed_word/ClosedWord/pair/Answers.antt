use Rattle.xh_channel.proofs.Common.{[]}
use Rattle.xh_channel.proofs.ClosedSteps.{begins}
use Rattle.xh_channel.proofs.closed_word.ClosedWord.pair.Goals as goal

pub of_words-requires : goal.of_words-requires
of_words-requires c = begins {S = Unit {0}} [] c.args.channel
