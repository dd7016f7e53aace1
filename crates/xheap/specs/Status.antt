-- How a run of the program ends, and with which status.
use Rattle.std.specs.Prelude.{◌≡◌, ◌⊎◌, ℕ, Bool, true, false, List, Option}
use Rattle.xh_command_line.specs.Asked.{AskRun}
use Rattle.xh_command_line.specs.Unasked.{IsUnasked}
use Rattle.xh_command_line.specs.Status.{exit_status}
use Rattle.xh_command_line.specs.declared.options.Options.{Options}
use Rattle.xh_model.specs.declared.config.Config.{Config}
use Rattle.xh_script.specs.declared.streams.Watched.{Watched}
use Rattle.xh_session.specs.Ends.{EndedWith}
use Rattle.xh_session.specs.Output.{IsWrittenOut}
use Rattle.xh_runner.specs.Runs.{IsReportTold}

module _ {R W : Type 0} (remaining : R → Option (List ℕ)) (contents : W → Option (List ℕ)) where
  -- a script was run with these limits: one by one, what it means is written, and on threads a report of its run; with what is in flight at its end, where that is asked for
  abbrev pub RanBy : Bool → Bool → Config → Watched R → Watched R → Watched W → Watched W → ℕ → Type 0
  RanBy true flight config = EndedWith remaining contents (IsWrittenOut flight config) exit_status config
  RanBy false flight config = EndedWith remaining contents (IsReportTold flight config) exit_status config

  -- a script is run with the options that the words ask for; or they ask for no run, and nothing is read
  abbrev pub EndedRun : List ℕ → List (List ℕ) → Watched R → Watched R → Watched W → Watched W → ℕ → Type 0
  EndedRun name words reader reader' out out' status =
      ((options : Options) × AskRun name words options × RanBy options.serial options.flight options.config reader reader' out out' status)
      ⊎ ((reader' ≡ reader) × IsUnasked name words out out' status)
