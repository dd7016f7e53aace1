use Rattle.xh_serial.proofs.Common.{drop, serial_flights, length, ◌++◌, ◌≡◌, ◌≤◌}
use Rattle.xh_serial.proofs.serial.Serial.flight.Given as goal

abbrev pub invariant-loop-direction : goal.invariant-loop-direction
invariant-loop-direction l = record {
  lines : l.lines.items ++ serial_flights l.self.store l.direction (drop l.direction l.self.lines) ≡ serial_flights l.self.store 0 l.self.lines;
  few : length l.lines.items ≤ l.direction;
}
