-- What the words of a command say, by their place in its row of the table. A word of another sort, which no row has there, says 0 or nothing.
use Rattle.std.specs.Prelude.{ℕ, List, [], slice_get, Option, Some, None}
use Rattle.xh_script.specs.declared.command.Word.{Word}
use Rattle.xh_script.specs.declared.command.Word.TheVariants.{Name, Number, Bytes}

-- the number of the name that a word is
abbrev pub name_in : Word → ℕ
name_in (Name n) = n
name_in _ = 0

abbrev pub name_said : Option Word → ℕ
name_said (Some word) = name_in word
name_said None = 0

-- the number of a process or of a block
abbrev pub name : List Word → ℕ → ℕ
name words i = name_said (slice_get words i)

abbrev pub number_said : ℕ → Option Word → ℕ
number_said other (Some (Number n)) = n
number_said other _ = other

-- a number, or another one where the line ends before it
abbrev pub number_or : List Word → ℕ → ℕ → ℕ
number_or words i other = number_said other (slice_get words i)

abbrev pub number : List Word → ℕ → ℕ
number words i = number_or words i 0

abbrev pub contract_said : Option Word → Option ℕ
contract_said (Some (Name n)) = Some n
contract_said _ = None

-- the number of a contract, where the line names one
abbrev pub contract : List Word → ℕ → Option ℕ
contract words i = contract_said (slice_get words i)

abbrev pub bytes_said : Option Word → List ℕ
bytes_said (Some (Bytes bytes)) = bytes.items
bytes_said _ = []

abbrev pub bytes : List Word → ℕ → List ℕ
bytes words i = bytes_said (slice_get words i)
