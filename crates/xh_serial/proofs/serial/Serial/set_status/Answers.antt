use Rattle.xh_serial.proofs.Common.{machine_of}
use Rattle.xh_serial.proofs.Closing.{status_whole}
use Rattle.xh_serial.proofs.serial.Serial.set_status.Goals as goal

pub invariant_of-self : goal.invariant_of-self
invariant_of-self c = rw c.set_status.ensures (status_whole (machine_of c.self.inside) c.args.p c.args.status c.self.invariant (rw (← c.self.view_is) at c.requires))
