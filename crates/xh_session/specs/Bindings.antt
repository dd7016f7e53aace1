-- What the names of a script stand for. NOTHING stands for no process, and for a name that is bound to nothing.
use Rattle.std.specs.Prelude.{ℕ, ◌%◌, List, map, replicate, slice_index_or, slice_set, slice_get, if◌then◌else◌, not, ◌==◌, Bool, codes, option_and_then, Option, Some, None}
use Rattle.xh_model.specs.declared.limits.TheConstants.{PLACES}
use Rattle.xh_script.specs.declared.limits.TheConstants.{MAX_PROCESSES}
use Rattle.xh_session.specs.declared.bindings.Bindings.{Bindings}
use Rattle.xh_session.specs.declared.bindings.Processes.{Processes}
use Rattle.xh_session.specs.declared.bindings.TheConstants.{NOTHING}
use Rattle.xh_session.specs.BlockNames.{names_alone, nothings}

-- no process has a place
unfoldable pub no_processes : Processes
no_processes = record { numbers = replicate MAX_PROCESSES NOTHING; latest = replicate PLACES 0 }

-- the number of a process
abbrev pub number_at : Processes → ℕ → ℕ
number_at s p = slice_index_or s.numbers p NOTHING

-- whether a process line gave a process a place
abbrev pub has_place : Processes → ℕ → Bool
has_place s p = not (number_at s p == NOTHING)

-- a process has a number, and is the latest of its place
abbrev pub with_started : Processes → ℕ → ℕ → Processes
with_started s p n = record { numbers = slice_set s.numbers p n; latest = slice_set s.latest (n % PLACES) p }

-- a process has another number
abbrev pub renumbered : Processes → ℕ → ℕ → Processes
renumbered s p n = record s { numbers = slice_set s.numbers p n }

-- the process that has a place of the first 32 numbers, by its name
abbrev pub process_at : Processes → ℕ → Option ℕ
process_at s place = option_and_then (λ p. if number_at s p == place then Some p else None) (slice_get s.latest place)

-- the name of a process; one that no line names is called vacant
unfoldable pub name_or_vacant : List (List ℕ) → ℕ → List ℕ
name_or_vacant names p = slice_index_or names p (codes "vacant")

-- the names of the processes by place; no line tells a place that no process had
abbrev pub names_by_place : List (List ℕ) → Processes → List (List ℕ)
names_by_place names s = map (λ p. name_or_vacant names p) s.latest

-- no process has a place, and no name is bound
unfoldable pub no_bindings : Bindings
no_bindings = record { processes = no_processes; blocks = record { first = 0; rows = replicate MAX_PROCESSES nothings } }

-- what processes stand for, and of names for blocks those of one process alone
abbrev pub names_of : Bindings → ℕ → Bindings
names_of b p = record b { blocks = names_alone b.blocks p }
