-- The commands close, exit and kill.
use Rattle.std.specs.Prelude.{ℕ, ◌-◌, ◌==◌, cond, List, [], ◌∷◌, ◌++◌, length, Ok}
use Rattle.std.specs.List.{remove, position_or_len}
use Rattle.xh_model.specs.Store.{all_out}
use Rattle.xh_model.specs.declared.limits.TheConstants.{MAX_BUDGET}
use Rattle.xh_core.specs.declared.status.Status.TheVariants.{Ending, Ended}
use Rattle.xh_core.specs.Calls.{start, stop, reclaimed, end_tests}
use Rattle.xh_core.specs.Refusing.{Tests, first_refusal}
use Rattle.xh_serial.specs.Machine.{Machine, blocks, relisted, restated, serial_status}
use Rattle.xh_serial.specs.Commands.{Answer, answered, header_found}
use Rattle.xh_serial.specs.Sweeping.{sweep}

-- the bytes that were given back from m to n, where nothing of the list is left, else how much is
abbrev pub stop_answer : ℕ → Machine → Machine → Answer ℕ
stop_answer p m n = (reclaimed (all_out m.store - all_out n.store) (length (blocks n p)), n)

-- the process is Ending and its list is swept; where nothing is left it is Ended
unfoldable pub stopped : ℕ → ℕ → Machine → Machine
stopped p budget m =
    let n : Machine = sweep p 0 budget (record m { places = restated p Ending m.places }) in
    cond (length (blocks n p) == 0) (record n { places = restated p Ended n.places }) n

-- p ends itself: the bytes that this call reclaimed
unfoldable pub exit : ℕ → ℕ → Machine → Answer ℕ
exit p budget m = answered (first_refusal (stop (serial_status m p))) m (stop_answer p m (stopped p budget m))

-- a running process ends another, or itself
abbrev pub kill_refusals : Machine → ℕ → ℕ → Tests
kill_refusals m by victim = start (serial_status m by) ++ stop (serial_status m victim)

unfoldable pub kill : ℕ → ℕ → ℕ → Machine → Answer ℕ
kill by victim budget m = answered (first_refusal (kill_refusals m by victim)) m (stop_answer victim m (stopped victim budget m))

-- the list with the record e at its end
abbrev pub last : ℕ → List ℕ → List ℕ
last e rs = remove rs (position_or_len (λ q. q == e) rs) ++ e ∷ []

abbrev pub moved_last : ℕ → ℕ → Machine → Machine
moved_last p e m = record m { places = relisted p (last e (blocks m p)) m.places }

-- the endpoint goes to the end of the list, and the list is swept from there
unfoldable pub closed : ℕ → ℕ → Machine → Machine
closed p e m = sweep p (length (blocks m p) - 1) MAX_BUDGET (moved_last p e m)

abbrev pub close_refusals : Machine → ℕ → ℕ → Tests
close_refusals m p e = start (serial_status m p) ++ end_tests (header_found m p e)

-- an end of a channel is closed: the bytes reclaimed
unfoldable pub close : ℕ → ℕ → Machine → Answer ℕ
close p e m = answered (first_refusal (close_refusals m p e)) m (Ok (all_out m.store - all_out (closed p e m).store), closed p e m)
