-- What is written for a script.
use Rattle.std.specs.Prelude.{◌≡◌, ℕ, Bool, true, false, if◌then◌else◌, List, [], ◌++◌}
use Rattle.xh_model.specs.declared.config.Config.{Config}
use Rattle.xh_serial.specs.Machine.{Machine}
use Rattle.xh_serial.specs.PlaceCommands.{flight_of, ledger_of}
use Rattle.xh_script.specs.Scripts.{Listing}
use Rattle.xh_script.specs.Texts.{answer_texts, flight_texts, ledger_text}
use Rattle.xh_session.specs.Bindings.{names_by_place}
use Rattle.xh_session.specs.Meaning.{new_world, answers, world_after}
use Rattle.xh_session.specs.Plans.{World}
use Rattle.xh_session.specs.declared.report.Report.{Report}

-- the text of a report: the replies, and then the ledger
abbrev pub text_of : Report → List ℕ
text_of r = answer_texts r.answers.items ++ ledger_text r.ledger r.names.items

-- the same, and after it, where it is asked for, what is in flight
abbrev pub told_text : Bool → Report → List ℕ
told_text flight r = text_of r ++ flight_texts (if flight then r.flight.items else [])

-- the ledger of a world, with the names of the script's processes
abbrev pub world_text : List (List ℕ) → World Machine → List ℕ
world_text processes w = ledger_text (ledger_of w.machine) (names_by_place processes w.names.processes)

-- what is written for a script's commands, done from a world on: the replies, and then the ledger
abbrev pub run_text : World Machine → Listing → List ℕ
run_text w script = answer_texts (answers w script.lines) ++ world_text script.processes (world_after w script.lines)

-- what is written for a script
unfoldable pub meaning : Config → Listing → List ℕ
meaning config script = run_text (new_world config script.contracts) script

abbrev pub IsMeaning : Config → Listing → List ℕ → Type 0
IsMeaning config script bytes = bytes ≡ meaning config script

-- the same, and after it, where it is asked for, what is in flight when the script's commands are done
abbrev pub IsWrittenOut : Bool → Config → Listing → List ℕ → Type 0
IsWrittenOut false config script bytes = IsMeaning config script bytes
IsWrittenOut true config script bytes = bytes ≡ meaning config script ++ flight_texts (flight_of (world_after (new_world config script.contracts) script.lines).machine)
