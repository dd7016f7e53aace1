-- The commands that lines say, with numbers for names.
use Rattle.std.specs.Prelude.{ℕ, ◌+◌, Bool, true, ◌&&◌, ◌||◌, not, List, [], ◌∷◌, ◌++◌, slice_index_or, slice_set, if◌then◌else◌, is_none, is_ok, ok_or, Result, Ok, Err}
use Rattle.xh_model.specs.declared.row.Row.{Row}
use Rattle.xh_script.specs.declared.limits.TheConstants.{MAX_PROCESSES, MAX_BLOCK_NAMES, MAX_CONTRACTS}
use Rattle.xh_script.specs.Steps.{◌>>=◌}
use Rattle.xh_script.specs.Names.{number_in, entered}
use Rattle.xh_script.specs.Forms.{FormShape, shape, sort_at, is_head, declares}
use Rattle.xh_script.specs.Sorts.{name_at, number_between, bytes_at, row_of_word}
use Rattle.xh_script.specs.Grammar.{check_all}
use Rattle.xh_script.specs.Tables.{is_table}
use Rattle.xh_script.specs.SoFar.{SoFar}
use Rattle.xh_script.specs.declared.fault.FaultKind.{FaultKind}
use Rattle.xh_script.specs.declared.fault.FaultKind.TheVariants.{BadContract, LateHead}
use Rattle.xh_script.specs.declared.form.Form.{Form}
use Rattle.xh_script.specs.declared.form.Sort.{Sort}
use Rattle.xh_script.specs.declared.form.Sort.TheVariants as sort
use Rattle.xh_script.specs.declared.command.Word.{Word}
use Rattle.xh_script.specs.declared.command.Word.TheVariants.{Name, Number, Bytes}

-- the number of a process
unfoldable pub process_said : SoFar → List ℕ → Result (ℕ × SoFar) FaultKind
process_said r word = name_at word >>= λ name. entered MAX_PROCESSES r.processes name >>= λ e. Ok (e.0, record r { processes = e.1 })

-- the number of a block among those of the process p
unfoldable pub block_in : SoFar → ℕ → List ℕ → Result (ℕ × SoFar) FaultKind
block_in r p word = name_at word >>= λ name. entered MAX_BLOCK_NAMES (slice_index_or r.blocks p []) name >>= λ e. Ok (e.0, record r { blocks = slice_set r.blocks p e.1 })

-- the number of a contract, which an earlier line declares
unfoldable pub contract_in : SoFar → List ℕ → Result ℕ FaultKind
contract_in r word = name_at word >>= λ name. ok_or (number_in r.declared name) BadContract

-- what a word of a sort says, where the process that was named last has the number p; and the number of the process that is named last then. Rows stand
-- only where a contract is declared
unfoldable pub word_in : SoFar → ℕ → Sort → List ℕ → Result (ℕ × Word × SoFar) FaultKind
word_in r p sort.Process word = process_said r word >>= λ q. Ok (q.0, Name q.0, q.1)
word_in r p sort.Block word = block_in r p word >>= λ x. Ok (p, Name x.0, x.1)
word_in r p sort.Contract word = contract_in r word >>= λ k. Ok (p, Name k, r)
word_in r p (sort.Number least most) word = number_between least most word >>= λ n. Ok (p, Number n, r)
word_in r p sort.Bytes word = bytes_at word >>= λ bytes. Ok (p, Bytes bytes, r)
word_in r p sort.Row word = Err BadContract

-- what words say, from left to right, of which the first is at place i of a row
abbrev pub words_in : SoFar → ℕ → FormShape → ℕ → List (List ℕ) → Result (List Word × SoFar) FaultKind
words_in r p row i [] = Ok ([], r)
words_in r p row i (word ∷ words) = word_in r p (sort_at row i) word >>= λ w. words_in w.2 w.0 row (i + 1) words >>= λ ws. Ok (w.1 ∷ ws.0, ws.1)

-- a contract that is named is declared on an earlier line
abbrev pub is_word_known : SoFar → Sort → List ℕ → Bool
is_word_known r sort.Contract word = is_ok (contract_in r word)
is_word_known r _ word = true

abbrev pub are_known : SoFar → FormShape → ℕ → List (List ℕ) → Bool
are_known r row i [] = true
are_known r row i (word ∷ words) = is_word_known r (sort_at row i) word && are_known r row (i + 1) words

abbrev pub rows_in : List (List ℕ) → Result (List Row) FaultKind
rows_in [] = Ok []
rows_in (word ∷ words) = row_of_word word >>= λ row. rows_in words >>= λ rows. Ok (row ∷ rows)

-- a new contract, with a valid table
unfoldable pub declared : SoFar → List (List ℕ) → Result (List Word × SoFar) FaultKind
declared r [] = Err BadContract
declared r (first ∷ words) = name_at first >>= λ name. rows_in words >>= λ rows.
    if is_table rows && is_none (number_in r.declared name) then
    (entered MAX_CONTRACTS r.declared name >>= λ e. Ok (Name e.0 ∷ [], record r { declared = e.1; contracts = r.contracts ++ rows ∷ [] }))
    else Err BadContract

-- what the words of a form say, once they are checked, where their place in the script allows it: `contract`, `process` and `wire` stand ahead of all others
unfoldable pub placed : SoFar → Form → List (List ℕ) → Result (List Word × SoFar) FaultKind
placed r form words = check_all (shape form) words >>= λ _.
    if is_head form && r.begun then Err LateHead
    else if declares form then declared r words
    else if are_known r (shape form) 0 words then words_in (record r { begun = r.begun || not (is_head form) }) 0 (shape form) 0 words
    else Err BadContract
