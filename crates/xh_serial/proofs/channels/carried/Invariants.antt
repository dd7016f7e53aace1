use Rattle.xh_serial.proofs.Common.{carried, drop, length, ◌*◌, ◌++◌, ◌≡◌, ◌≤◌}
use Rattle.xh_serial.proofs.channels.carried.Given as goal

abbrev pub invariant-loop-message : goal.invariant-loop-message
invariant-loop-message l = record {
  room : length l.list.items ≤ 8 * l.message-index;
  list : l.list.items ++ carried (drop l.message-index l.messages.items) ≡ carried l.messages.items;
}
