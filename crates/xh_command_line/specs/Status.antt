-- The statuses that faults end a run with.
use Rattle.std.specs.Prelude.{ℕ}
use Rattle.xh_script.specs.declared.fault.Fault.{Fault}
use Rattle.xh_script.specs.declared.fault.Fault.TheVariants.{Script, Memory, Read, Write, Gate, BadConfig}

-- the status of a fault
abbrev pub exit_status : Fault → ℕ
exit_status (Script line kind) = 1
exit_status Memory = 3
exit_status Read = 4
exit_status Write = 4
exit_status Gate = 5
exit_status BadConfig = 5
