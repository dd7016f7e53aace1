use Rattle.xh_channel.proofs.Common.{either, eqb}
use Rattle.xh_channel.proofs.LineSteps.{locks, not_home}
use Rattle.xh_channel.proofs.line_steps.try_lock.Goals as goal

pub compare_exchange-requires : goal.compare_exchange-requires
compare_exchange-requires c = (c.requires.own.0, c.requires.own.1, locks _ _ _ (λ n. either (eqb n 0) 1 n) 0 1 not_home c.requires.owns)
