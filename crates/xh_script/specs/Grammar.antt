-- What a line says.
use Rattle.std.specs.Prelude.{ℕ, ◌+◌, ◌&&◌, ◌==◌, Bool, true, List, [], ◌∷◌, length, nat_le, nat_lt, if◌then◌else◌, Result, Ok, Err}
use Rattle.xh_script.specs.Steps.{◌>>=◌}
use Rattle.xh_script.specs.Words.{is_name}
use Rattle.xh_script.specs.Forms.{FormShape, heads, verbs, form_among, sort_at, has_count}
use Rattle.xh_script.specs.Sorts.{check}
use Rattle.xh_script.specs.declared.fault.FaultKind.{FaultKind}
use Rattle.xh_script.specs.declared.fault.FaultKind.TheVariants.{BadWord, BadCount}
use Rattle.xh_script.specs.declared.form.Form.{Form}

abbrev pub is_printable : ℕ → Bool
is_printable b = nat_le 32 b && nat_le b 126

-- an empty line, or one that begins with `#`
abbrev pub is_skipped : List ℕ → Bool
is_skipped [] = true
is_skipped (b ∷ line) = b == 35

abbrev pub is_filled : List ℕ → Bool
is_filled word = nat_lt 0 (length word)

-- the form of a line that begins with a process, and its words without the form's own
abbrev pub said_by : List ℕ → List (List ℕ) → Result (Form × List (List ℕ)) FaultKind
said_by process [] = Err BadCount
said_by process (verb ∷ words) = form_among verbs verb >>= λ form. Ok (form, process ∷ words)

-- the form that the words of a line say, and the words without the form's own
abbrev pub said : List (List ℕ) → Result (Form × List (List ℕ)) FaultKind
said [] = Err BadWord
said (first ∷ words) = if is_name first then said_by first words else form_among heads first >>= λ form. Ok (form, words)

-- whether words are of the sorts of a row, in which the first of them is at place i; or what is wrong with the first that is not
abbrev pub check_from : FormShape → ℕ → List (List ℕ) → Result (Unit {0}) FaultKind
check_from row i [] = Ok tt
check_from row i (word ∷ words) = check (sort_at row i) word >>= λ _. check_from row (i + 1) words

-- that, of all words of a row, of which there are as many as it allows
unfoldable pub check_all : FormShape → List (List ℕ) → Result (Unit {0}) FaultKind
check_all row words = if has_count row (length words) then check_from row 0 words else Err BadCount
