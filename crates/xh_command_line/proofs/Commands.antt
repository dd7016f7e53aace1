-- What clap's contracts say of the command line.
use Rattle.std.proofs.Common.{◌≡◌, ◌∙◌, true, List, [], Result, Ok, Err, IfOk, ap₂, refl, subst}
use Rattle.clap.proofs.OnLiterals.{clap_on_literals}
use Rattle.clap.specs.Words.{AddsArg, App, FailsBy, HasKind, HasMatchesOf, Rule, Text, app_of, fault_of, is_simple, is_simple_and_free, with_rule}
use Rattle.clap.specs.declared.builder.arg.Arg.{Arg}
use Rattle.clap.specs.declared.builder.command.Command.{Command}
use Rattle.clap.specs.declared.error.Error.{Error}
use Rattle.clap.specs.declared.parser.matches.ArgMatches.{ArgMatches}
use Rattle.xh_command_line.specs.Asked.{app, faults, rows_found}
use Rattle.xh_command_line.specs.inner.Args.{HasParsed, IsArg}

-- one more argument
pub added : (old : Command) (a : Arg) (new : Command) (of : App) (rule : Rule) → AddsArg old a new → app_of old ≡ of → IsArg rule a
    → app_of new ≡ with_rule of rule
added old a new of rule adds is arg = adds.shape arg.1 ∙ ap₂ with_rule is arg.0

simple : (name : Text) → is_simple (app name) ≡ true
unfolding app clap_on_literals
simple name = refl

free : (name : Text) → is_simple_and_free (app name) ≡ true
unfolding app clap_on_literals
free name = refl

-- what a parse of it finds, or fails by
pub has_parsed : (of : App) (name : Text) (words : List Text) (r : Result ArgMatches Error) → of ≡ app name → IfOk r (HasMatchesOf of words)
    → (is_simple_and_free of ≡ true → FailsBy (fault_of of words) r) → HasParsed name words r
unfolding faults rows_found
has_parsed of name words (Ok m) is has fails = (
  subst (λ (a : App). is_simple_and_free a ≡ true → fault_of a words ≡ []) is fails (free name),
  (subst (λ (a : App). HasMatchesOf a words m) is has (simple name)).0,
)
has_parsed of name words (Err e) is has fails =
    subst (λ (a : App). is_simple_and_free a ≡ true → HasKind (fault_of a words) e) is fails (free name)
