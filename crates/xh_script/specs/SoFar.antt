-- What has been read so far.
use Rattle.std.specs.Prelude.{ℕ, Bool, List}
use Rattle.xh_model.specs.declared.row.Row.{Row}
use Rattle.xh_script.specs.declared.command.Line.{Line}

-- the commands; the names of processes, of the blocks of each process by number, and of contracts; the tables of the contracts; and whether a command came that is no head line
pub record SoFar : Type 0 where
  pub lines : List Line
  pub processes : List (List ℕ)
  pub blocks : List (List (List ℕ))
  pub declared : List (List ℕ)
  pub contracts : List (List Row)
  pub begun : Bool
