-- All channels as a value.
use Rattle.std.specs.Prelude.{◌≡◌, ℕ, List, Option, Some}
use Rattle.xh_model.specs.declared.row.Row.{Row}
use Rattle.xh_model.specs.Rows.{IsValid}
use Rattle.xh_serial.specs.declared.line.Line.{Line}

-- the lines by direction; the contracts by channel, where there is one; how many channels were opened
pub record ChannelsOf : Type 0 where
  pub lines : List Line
  pub contracts : List (Option (List Row))
  pub opened : ℕ

-- a contract, where there is one, is valid
abbrev pub IsSound : Option (List Row) → Type 0
IsSound contract = (rows : List Row) → contract ≡ Some rows → IsValid rows
