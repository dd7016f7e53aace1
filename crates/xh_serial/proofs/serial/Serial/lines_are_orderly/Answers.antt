use Rattle.xh_serial.proofs.Common.{HasOrderlyLines, machine_of, subst}
use Rattle.xh_serial.proofs.Wired.{wired_orderly}
use Rattle.xh_serial.proofs.serial.Serial.lines_are_orderly.Goals as goal

pub returns-clause-orderly : goal.returns-clause-orderly
returns-clause-orderly c = subst HasOrderlyLines c.self.view_is (wired_orderly (machine_of c.self.inside) c.self.invariant.channels.wired)

pub returns-clause-numbered : goal.returns-clause-numbered
returns-clause-numbered c = λ d. rw (← c.self.view_is) (c.self.invariant.channels.numbered d)
