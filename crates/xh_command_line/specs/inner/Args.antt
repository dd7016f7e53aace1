-- An argument of the command line, and what a number's text says.
use Rattle.std.specs.Prelude.{◌≡◌, ◌≢◌, ◌⊎◌, ℕ, false, List, [], Option, Some, None, Result, Ok, MatchResult}
use Rattle.clap.specs.Kinds.{HasKind}
use Rattle.clap.specs.Matches.{found_of}
use Rattle.clap.specs.Walk.{Rule, Text, rows_of, rule_of}
use Rattle.clap.specs.declared.builder.arg.Arg.{Arg}
use Rattle.clap.specs.declared.error.Error.{Error}
use Rattle.clap.specs.declared.error.kind.ErrorKind.{ErrorKind}
use Rattle.clap.specs.declared.error.kind.ErrorKind.TheVariants.{DisplayHelp, DisplayVersion, OutOfMemory}
use Rattle.clap.specs.declared.parser.matches.ArgMatches.{ArgMatches}
use Rattle.xh_command_line.specs.Asked.{faults, rows_found}
use Rattle.xh_script.specs.declared.streams.Watched.{Watched}

-- the argument is that of this rule, and not one of subcommands too
abbrev pub IsArg : Rule → Arg → Type 0
IsArg rule arg = (rule_of arg ≡ rule) × (arg.global ≡ false)

module _ {T E : Type 0} (gives : List ℕ → Result T E → Type 0) (written : T → List ℕ) where
  -- a number that is written as this text; or there is none of those that are read as they are written
  abbrev pub ReadsNumber : Option (List ℕ) → Option T → Type 0
  ReadsNumber text (Some n) = text ≡ Some (written n)
  ReadsNumber text None = (n : T) → text ≡ Some (written n) → ((r : Result T E) → gives (written n) r → r ≡ Ok n) → ⊥

-- what clap found, or what it has against the words
abbrev pub HasParsed : Text → List Text → Result ArgMatches Error → Type 0
HasParsed name words result = MatchResult result (λ m. (faults name words ≡ []) × (rows_of (found_of m) ≡ rows_found name words))
    (λ e. HasKind (faults name words) e)

-- what an error of this kind ends with
abbrev pub IsExplained : {W : Type 0} → ErrorKind → Watched W → Watched W → ℕ → Type 0
IsExplained kind out out' status = ((status ≡ 0) × ((kind ≡ DisplayHelp) ⊎ (kind ≡ DisplayVersion)))
    ⊎ ((out' ≡ out) × ((status ≡ 3) ⊎ ((status ≡ 2) × (kind ≢ OutOfMemory) × (kind ≢ DisplayHelp) × (kind ≢ DisplayVersion))))
