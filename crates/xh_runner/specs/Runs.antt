-- A run of a script by the workers of a kernel, and what it leaves.
use Rattle.std.specs.Prelude.{◌≡◌, ◌<◌, ℕ, All, Bool, List, false, length, map}
use Rattle.xh_books.specs.Closing.{AreClosed}
use Rattle.xh_books.specs.Ledgers.{IsBalanced}
use Rattle.xh_calls.specs.Leading.{Leading}
use Rattle.xh_calls.specs.Parts.{AreMadeBy, PartsOf}
use Rattle.xh_calls.specs.declared.call.Entry.{Entry}
use Rattle.xh_core.specs.Flight.{AreFlightLines}
use Rattle.xh_core.specs.declared.flight.FlightLine.{FlightLine}
use Rattle.xh_core.specs.declared.ledger.Ledger.{Ledger}
use Rattle.xh_history.specs.Histories.{LookOf, fresh_look}
use Rattle.xh_kernel.specs.Accounts.{AccountOf, AreFresh}
use Rattle.xh_kernel.specs.Histories.{LeadsToPlace}
use Rattle.xh_model.specs.declared.config.Config.{Config}
use Rattle.xh_model.specs.declared.limits.TheConstants.{MAX_WORKERS, PLACES, USUAL_GENERATIONS}
use Rattle.xh_runner.specs.Plays.{AreAnswersTo, ArePlayed, HasNames}
use Rattle.xh_runner.specs.Workers.{WorkerState, did}
use Rattle.xh_script.specs.declared.replies.NumberedReply.{NumberedReply}
use Rattle.xh_script.specs.Scripts.{Listing}
use Rattle.xh_session.specs.declared.report.Report.{Report}
use Rattle.xh_session.specs.Output.{told_text}

abbrev pub accounts_of : List WorkerState → List AccountOf
accounts_of = map (λ w. w.account)

abbrev pub looks_of : List WorkerState → List (LookOf Entry)
looks_of = map (λ w. w.look)

-- the workers of a kernel of these parts, before they did anything
pub record AreNew (parts : PartsOf) (workers : List WorkerState) : Type 0 where
  pub accounts : AreFresh parts (accounts_of workers)
  pub looks : All (λ l. l ≡ fresh_look parts.histories) (looks_of workers)
  pub count : length workers ≡ MAX_WORKERS

-- new workers of a kernel of these parts, whose histories lead so, played a script's lines with these replies, and left these accounts and looks
pub record HasPlayed (parts : PartsOf) (leads : Leading) (script : Listing) (answers : List NumberedReply) (accounts : List AccountOf) (looks : List (LookOf Entry)) : Type 0 where
  pub workers : List WorkerState
  pub left : List WorkerState
  pub are_new : AreNew parts workers
  pub played : ArePlayed (did parts leads) script.contracts script.lines answers workers left
  pub accounts_are : accounts_of left ≡ accounts
  pub looks_are : looks_of left ≡ looks

-- A report tells a run of a script by a kernel of these parts: it was made by the configuration, each of its channels is opened once, its workers played the script's lines with the
-- report's replies, in histories that lead so; and the report's ledger and its lines of what is in flight are those with which the books of this kernel were closed, over what these workers left.
pub record RanOn (parts : PartsOf) (leads : Leading) (config : Config) (script : Listing) (report : Report) : Type 0 where
  pub made : AreMadeBy config MAX_WORKERS USUAL_GENERATIONS parts
  pub once : parts.comes_back ≡ false
  pub accounts : List AccountOf
  pub looks : List (LookOf Entry)
  pub played : HasPlayed parts leads script report.answers.items accounts looks
  pub closed : AreClosed parts accounts looks report.ledger report.flight.items

-- the same of a kernel of some parts, whose histories lead where the law says
abbrev pub HasRun : Config → Listing → Report → Type 0
HasRun config script report = (parts : PartsOf) × RanOn parts (LeadsToPlace parts) config script report

-- there is one reply for each line of the script, in order, and for each place the name of the process that by these replies is its latest
pub record AnswersScript (script : Listing) (answers : List NumberedReply) (names : List (List ℕ)) : Type 0 where
  pub lines : AreAnswersTo script.lines answers
  pub named : HasNames script.processes script.lines answers names
  pub count : length names ≡ PLACES

-- the ledger has the configuration's arenas, of their size, and lines of the 32 places, and its sums hold; the lines of what is in flight add up to its flight
pub record IsLedgerOf (config : Config) (l : Ledger) (directions : List FlightLine) : Type 0 where
  pub count : length l.arenas.items ≡ config.arenas
  pub sizes : All (λ a. a.size ≡ config.bytes) l.arenas.items
  pub places : All (λ line. line.place < PLACES) l.places.items
  pub balanced : IsBalanced l
  pub in_flight : AreFlightLines l.flight directions

-- what is written of a run of a script on threads: its replies, and the ledger of the run's kernel; and after it, where that is asked for, the lines of what is in flight
pub record IsReportTold (flight : Bool) (config : Config) (script : Listing) (bytes : List ℕ) : Type 0 where
  pub report : Report
  pub run : HasRun config script report
  pub answers : AnswersScript script report.answers.items report.names.items
  pub ledger : IsLedgerOf config report.ledger report.flight.items
  pub text : bytes ≡ told_text flight report
