-- The numbers of names.
use Rattle.std.specs.Prelude.{ℕ, ◌+◌, List, [], ◌∷◌, ◌++◌, length, nat_lt, if◌then◌else◌, Option, Some, None, Result, Ok, Err}
use Rattle.std.specs.Str.{bytes_eq}
use Rattle.xh_script.specs.declared.fault.FaultKind.{FaultKind}
use Rattle.xh_script.specs.declared.fault.FaultKind.TheVariants.{TooLong}

-- where a name stands among others, which are counted from i on
abbrev pub number_from : ℕ → List (List ℕ) → List ℕ → Option ℕ
number_from i [] name = None
number_from i (n ∷ names) name = if bytes_eq n name then Some i else number_from (i + 1) names name

-- the number of a name is its place in the list of names so far
abbrev pub number_in : List (List ℕ) → List ℕ → Option ℕ
number_in names name = number_from 0 names name

abbrev pub entered_by : ℕ → List (List ℕ) → List ℕ → Option ℕ → Result (ℕ × List (List ℕ)) FaultKind
entered_by most names name (Some n) = Ok (n, names)
entered_by most names name None = if nat_lt (length names) most then Ok (length names, names ++ name ∷ []) else Err TooLong

-- the number of a name, and the names with it: a new one comes behind the others, of which there may be this many at most
unfoldable pub entered : ℕ → List (List ℕ) → List ℕ → Result (ℕ × List (List ℕ)) FaultKind
entered most names name = entered_by most names name (number_in names name)
