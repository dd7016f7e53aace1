-- What the words of a command line ask for, by clap's rules; the first word is the program's own name.
use Rattle.std.specs.Prelude.{◌≡◌, ◌≢◌, ◌⊎◌, ℕ, Bool, true, false, List, [], ◌∷◌, Option, Some, codes}
use Rattle.std.specs.Fmt.{decimal}
use Rattle.clap.specs.Faults.{fault_of}
use Rattle.clap.specs.Kinds.{IsAmong, Kinds}
use Rattle.clap.specs.Simple.{App, matches_of, new_app, new_rule, on_top}
use Rattle.clap.specs.Walk.{Row, Rule, Text, first_of, one_of}
use Rattle.clap.specs.declared.builder.action.ArgAction.TheVariants.{Set, SetTrue}
use Rattle.clap.specs.declared.builder.value_parser.ValueParser.TheVariants.{Unsigned}
use Rattle.clap.specs.declared.error.kind.ErrorKind.{ErrorKind}
use Rattle.clap.specs.declared.error.kind.ErrorKind.TheVariants.{DisplayHelp, DisplayVersion}
use Rattle.xh_command_line.specs.declared.options.Options.{Options}
use Rattle.xh_model.specs.declared.config.Config.{Config}
use Rattle.xh_model.specs.declared.limits.TheConstants.{MAX_ARENAS, MAX_DEPTH, MAX_RECORDS, MAX_WEAR, UNIT}
use Rattle.xh_script.specs.Config.{IsScriptConfig}
use Rattle.xh_script.specs.declared.limits.TheConstants.{MAX_ARENA_BYTES}

abbrev pub flag_rule : Text → Rule
flag_rule name = record (new_rule name) { long = Some name; action = Some SetTrue }

-- a number from the least to the most, with the text of its default
abbrev pub number_rule : Text → ℕ → ℕ → Text → Rule
number_rule name least most default = record (new_rule name) {
  long = Some name;
  action = Some Set;
  value_names = 1;
  defaults = default ∷ [];
  parser = Some (Unsigned least most);
}

abbrev pub rules : List Rule
rules = flag_rule (codes "serial") ∷ flag_rule (codes "flight")
    ∷ number_rule (codes "arenas") 1 MAX_ARENAS (codes "1")
    ∷ number_rule (codes "bytes") UNIT MAX_ARENA_BYTES (codes "65536")
    ∷ number_rule (codes "records") 1 MAX_RECORDS (codes "256")
    ∷ number_rule (codes "depth") 1 MAX_DEPTH (codes "4")
    ∷ number_rule (codes "wear") 0 MAX_WEAR (codes "9223372036854775807") ∷ []

-- the command line of the program of this name, with help and a version
unfoldable pub app : Text → App
app name = on_top (λ shape. record shape { rules = rules; has_version = true }) (new_app name)

-- what clap has against the words, of which help and the version are two kinds
unfoldable pub faults : Text → List Text → Kinds
faults name words = fault_of (app name) words

-- what clap finds among them, option by option
unfoldable pub rows_found : Text → List Text → List Row
rows_found name words = matches_of (app name) words

-- a flag is set where its text is true, and not where it is false
abbrev pub IsSet : Option Text → Bool → Type 0
IsSet text set = (text ≡ Some (codes "true") → set ≡ true) × (text ≡ Some (codes "false") → set ≡ false)

-- the texts of the options are these limits, in digits
abbrev pub HasLimits : List Row → Config → Type 0
HasLimits rows config = (first_of (codes "arenas") rows ≡ Some (decimal config.arenas))
    × (first_of (codes "bytes") rows ≡ Some (decimal config.bytes))
    × (first_of (codes "records") rows ≡ Some (decimal config.records))
    × (first_of (codes "depth") rows ≡ Some (decimal config.depth))
    × (first_of (codes "wear") rows ≡ Some (decimal config.wear))

-- what the words say, option by option
abbrev pub HasOptions : List Row → Options → Type 0
HasOptions rows options = IsSet (one_of (codes "serial") rows) options.serial
    × IsSet (one_of (codes "flight") rows) options.flight × HasLimits rows options.config × IsScriptConfig options.config

-- the words ask for a run with these options
abbrev pub AskRun : Text → List Text → Options → Type 0
AskRun name words options = (faults name words ≡ []) × HasOptions (rows_found name words) options

-- they ask for help or the version
abbrev pub AskText : Text → List Text → Type 0
AskText name words = IsAmong DisplayHelp (faults name words) ⊎ IsAmong DisplayVersion (faults name words)

-- clap has something else against them; or they have no limits with which a script can be run, each in digits
abbrev pub AreWrong : Text → List Text → Type 0
AreWrong name words = ((kind : ErrorKind) × IsAmong kind (faults name words) × (kind ≢ DisplayHelp) × (kind ≢ DisplayVersion))
    ⊎ ((faults name words ≡ []) × ((config : Config) → IsScriptConfig config → HasLimits (rows_found name words) config → ⊥))
