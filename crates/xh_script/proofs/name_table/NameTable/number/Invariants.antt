use Rattle.xh_script.proofs.Common.{drop, number_from, number_in, ◌≡◌}
use Rattle.xh_script.proofs.name_table.NameTable.number.Given as goal

abbrev pub invariant-loop-number : goal.invariant-loop-number
invariant-loop-number l = number_in l.self l.name ≡ number_from l.number (drop l.number l.self) l.name
