use Rattle.xh_serial.proofs.Common.{drop, sum_by, total, ◌*◌, ◌+◌, ◌≡◌, ◌≤◌}
use Rattle.xh_serial.proofs.serial.Serial.owned.Given as goal

abbrev pub invariant-loop-at : goal.invariant-loop-at
invariant-loop-at l = record {
  sum : l.sum + sum_by (λ place. total l.self.store place.blocks.items) (drop l.at l.self.places) ≡ sum_by (λ place. total l.self.store place.blocks.items) l.self.places;
  small : l.sum ≤ l.at * 8796093020160;
}
