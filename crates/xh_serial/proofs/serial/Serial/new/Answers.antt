use Rattle.xh_serial.proofs.Common.{IsLawful, new_machine, subst}
use Rattle.xh_serial.proofs.Opening.{new_whole}
use Rattle.xh_serial.proofs.serial.Serial.new.Goals as goal

pub invariant_of-result : goal.invariant_of-result
unfolding new_machine
invariant_of-result c =
    rw (c.in_ok-plain.ensures.fresh, c.in_ok-none.ensures, c.from.ensures, c.in_ok-vacant.ensures, c.in_ok-none-2.ensures)
    (new_whole c.args.config c.in_ok-plain.ensures.limits (subst IsLawful c.in_ok-plain.ensures.fresh c.in_ok-plain.ensures.lawful))
