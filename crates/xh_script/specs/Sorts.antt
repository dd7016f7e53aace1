-- What a word says, and of which sort it is.
use Rattle.std.specs.Prelude.{ℕ, ◌-◌, ◌&&◌, ◌==◌, List, [], ◌∷◌, nat_le, if◌then◌else◌, Result, Ok, Err}
use Rattle.std.specs.List.{slice_split}
use Rattle.arrayvec.specs.ArrayVec.{ArrayVec}
use Rattle.xh_model.specs.declared.row.Row.{Row}
use Rattle.xh_model.specs.declared.limits.TheConstants.{STATES}
use Rattle.xh_script.specs.declared.limits.TheConstants.{MAX_TAG}
use Rattle.xh_script.specs.Words.{is_name, is_numeral, value_of, is_hex, hex_bytes}
use Rattle.xh_script.specs.Steps.{◌>>=◌}
use Rattle.xh_script.specs.declared.fault.FaultKind.{FaultKind}
use Rattle.xh_script.specs.declared.fault.FaultKind.TheVariants.{BadWord, BadNumber, BadHex}
use Rattle.xh_script.specs.declared.form.Sort.{Sort}
use Rattle.xh_script.specs.declared.form.Sort.TheVariants as sort

unfoldable pub name_at : List ℕ → Result (List ℕ) FaultKind
name_at word = if is_name word then Ok word else Err BadWord

-- a number with a least and a greatest value
unfoldable pub number_between : ℕ → ℕ → List ℕ → Result ℕ FaultKind
number_between low high word = if is_numeral word && nat_le low (value_of word) && nat_le (value_of word) high then Ok (value_of word) else Err BadNumber

unfoldable pub bytes_at : List ℕ → Result (ArrayVec ℕ) FaultKind
bytes_at word = if is_hex word then Ok (record { items = hex_bytes word }) else Err BadHex

-- four numbers joined by `:`, the state, the tag, the sending side and the next state
unfoldable pub row_said : List ℕ → List ℕ → List ℕ → List ℕ → Result Row FaultKind
row_said state tag side next = do
  s ← number_between 0 (STATES - 1) state
  t ← number_between 0 MAX_TAG tag
  d ← number_between 0 1 side
  n ← number_between 0 (STATES - 1) next
  Ok (record { state = s; tag = t; side = d; next = n })

unfoldable pub row_of : List (List ℕ) → Result Row FaultKind
row_of (state ∷ tag ∷ side ∷ next ∷ []) = row_said state tag side next
row_of _ = Err BadNumber

abbrev pub row_of_word : List ℕ → Result Row FaultKind
row_of_word word = row_of (slice_split (λ b. b == 58) word)

-- whether a word is of this sort, or what is wrong with it
unfoldable pub check : Sort → List ℕ → Result (Unit {0}) FaultKind
check sort.Process word = name_at word >>= λ _. Ok tt
check sort.Block word = name_at word >>= λ _. Ok tt
check sort.Contract word = name_at word >>= λ _. Ok tt
check (sort.Number least most) word = number_between least most word >>= λ _. Ok tt
check sort.Bytes word = bytes_at word >>= λ _. Ok tt
check sort.Row word = row_of_word word >>= λ _. Ok tt
