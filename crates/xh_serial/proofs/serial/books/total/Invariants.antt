use Rattle.xh_serial.proofs.Common.{drop, total, ◌*◌, ◌+◌, ◌≡◌, ◌≤◌}
use Rattle.xh_serial.proofs.serial.books.total.Given as goal

abbrev pub invariant-loop-record : goal.invariant-loop-record
invariant-loop-record l = record {
  sum : l.sum + total l.plain (drop l.record-index l.records) ≡ total l.plain l.records;
  small : l.sum ≤ l.record-index * 4294967295;
}
