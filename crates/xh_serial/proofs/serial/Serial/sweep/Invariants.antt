use Rattle.xh_serial.proofs.Common.{all_out, is_current, sweep, true, ◌*◌, ◌+◌, ◌-◌, ◌≡◌, ◌≤◌}
use Rattle.xh_serial.proofs.serial.Serial.sweep.Given as goal

-- what is left of the budget makes of the machine now what the whole makes of the first
abbrev pub invariant-loop-left : goal.invariant-loop-left
invariant-loop-left l = record {
  is : sweep l.p l.from l.left l.self ≡ sweep l.p l.from l.budget l.fn.self;
  bytes : l.bytes + all_out l.self.store ≡ all_out l.fn.self.store;
  small : l.bytes ≤ (l.budget - l.left) * 4294967295;
  within : l.left ≤ l.budget;
  current : is_current l.self l.p ≡ true;
}

abbrev pub decreases-loop-left : goal.decreases-loop-left
decreases-loop-left l = l.left
