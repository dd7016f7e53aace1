use Rattle.xh_serial.proofs.Common.{All, drop, length, serial_places, ◌++◌, ◌<◌, ◌≡◌, ◌≤◌}
use Rattle.xh_serial.proofs.serial.Serial.place_lines.Given as goal

abbrev pub invariant-loop-at : goal.invariant-loop-at
invariant-loop-at l = record {
  lines : l.lines.items ++ serial_places l.self.store l.at (drop l.at l.self.places) ≡ serial_places l.self.store 0 l.self.places;
  few : length l.lines.items ≤ l.at;
  below : All (λ line. line.place < 32) l.lines.items;
}
