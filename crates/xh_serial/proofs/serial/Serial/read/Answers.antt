use Rattle.xh_serial.proofs.Common.{read, refl}
use Rattle.xh_serial.proofs.serial.Serial.read.Goals as goal

pub returns-clause-done : goal.returns-clause-done
unfolding read
returns-clause-done c = rw (c.in_ok-check_range.ensures.0, c.copy.ensures, ← c.self.view_is) refl
