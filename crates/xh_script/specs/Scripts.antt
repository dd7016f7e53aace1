-- What a script is: its commands, the names of its processes and its contracts, or its first fault.
use Rattle.std.specs.Prelude.{◌≡◌, ℕ, ◌+◌, ◌==◌, false, List, [], ◌∷◌, ◌++◌, length, replicate, nat_lt, if◌then◌else◌, Result, Ok, Err, ⊤}
use Rattle.std.specs.List.{list_all, slice_split}
use Rattle.xh_model.specs.declared.row.Row.{Row}
use Rattle.xh_script.specs.declared.limits.TheConstants.{MAX_COMMANDS, MAX_LINE, MAX_PROCESSES, MAX_SCRIPT}
use Rattle.xh_script.specs.Steps.{◌>>=◌}
use Rattle.xh_script.specs.SoFar.{SoFar}
use Rattle.xh_script.specs.Grammar.{is_filled, is_printable, is_skipped, said}
use Rattle.xh_script.specs.Numbering.{placed}
use Rattle.xh_script.specs.declared.fault.FaultKind.{FaultKind}
use Rattle.xh_script.specs.declared.fault.FaultKind.TheVariants.{TooLong, LongLine, BadByte, BadWord}
use Rattle.xh_script.specs.declared.fault.Fault.{Fault}
use Rattle.xh_script.specs.declared.fault.Fault.TheVariants.{Script as ScriptFault, Memory, Read as ReadFault, Write as WriteFault, Gate, BadConfig}
use Rattle.xh_script.specs.declared.command.Word.{Word}
use Rattle.xh_script.specs.declared.form.Form.{Form}
use Rattle.xh_script.specs.declared.command.Line.{Line}
use Rattle.xh_script.specs.declared.script.Script.{Script}

-- one more command
unfoldable pub with_command : SoFar → ℕ → Form → List Word → Result SoFar FaultKind
with_command r number form words =
    if nat_lt (length r.lines) MAX_COMMANDS then
    Ok (record r { lines = r.lines ++ record { number = number; command = record { form = form; words = record { items = words } } } ∷ [] })
    else Err TooLong

-- what the words of a line say
unfoldable pub with_words : SoFar → ℕ → List (List ℕ) → Result SoFar FaultKind
with_words r number words =
    if list_all is_filled words then (said words >>= λ s. placed r s.0 s.1 >>= λ c. with_command c.1 number s.0 c.0)
    else Err BadWord

abbrev pub at_line : {A : Type 0} → ℕ → Result A FaultKind → Result A Fault
at_line number (Ok x) = Ok x
at_line number (Err kind) = Err (ScriptFault number kind)

-- a line was read, which may be skipped
unfoldable pub after_line : SoFar → ℕ → List ℕ → Result SoFar FaultKind
after_line r number line =
    if nat_lt MAX_LINE (length line) then Err LongLine
    else if is_skipped line then Ok r
    else if list_all is_printable line then with_words r number (slice_split (λ b. b == 32) line)
    else Err BadByte

-- what has been read after these lines too, numbered from `number` on; the lowest line with a fault decides
abbrev pub after_lines : SoFar → ℕ → List (List ℕ) → Result SoFar Fault
after_lines r number [] = Ok r
after_lines r number (line ∷ lines) = at_line number (after_line r number line) >>= λ s. after_lines s (number + 1) lines

-- nothing has been read
abbrev pub nothing_read : SoFar
nothing_read = record { lines = []; processes = []; blocks = replicate MAX_PROCESSES []; declared = []; contracts = []; begun = false }

-- the commands of a script, the names of its processes by number, and its contracts by number
pub record Listing : Type 0 where
  pub lines : List Line
  pub processes : List (List ℕ)
  pub contracts : List (List Row)

abbrev pub listing_so_far : SoFar → Listing
listing_so_far r = record { lines = r.lines; processes = r.processes; contracts = r.contracts }

abbrev pub listing_of : Script → Listing
listing_of s = record { lines = s.lines.items; processes = s.processes.items; contracts = s.contracts.items }

-- the script that a text is, or its fault
unfoldable pub script_of : List ℕ → Result Listing Fault
script_of text =
    if nat_lt MAX_SCRIPT (length text) then Err (ScriptFault 0 TooLong)
    else after_lines nothing_read 1 (slice_split (λ b. b == 10) text) >>= λ r. Ok (listing_so_far r)

-- ---- what a function answers where reading gives this, unless memory runs out

abbrev pub Fails : {B : Type 0} → Fault → Result B Fault → Type 0
Fails Memory reading = ⊤
Fails (ScriptFault number kind) reading = reading ≡ Err (ScriptFault number kind)
Fails ReadFault reading = ⊥
Fails WriteFault reading = ⊥
Fails Gate reading = ⊥
Fails BadConfig reading = ⊥

abbrev pub ReadingGives : {A B : Type 0} → (A → B) → Result A Fault → Result B Fault → Type 0
ReadingGives view (Ok x) reading = reading ≡ Ok (view x)
ReadingGives view (Err fault) reading = Fails fault reading
