-- What the names of a script stand for that are of blocks.
use Rattle.std.specs.Prelude.{ℕ, ◌-◌, nat_lt, List, [], ◌∷◌, length, map, take, drop, replicate, slice_index_or, slice_set, if◌then◌else◌, ◌==◌, Option, Some, None}
use Rattle.xh_core.specs.declared.block.Block.{Block}
use Rattle.xh_script.specs.declared.limits.TheConstants.{MAX_BLOCK_NAMES}
use Rattle.xh_script.specs.declared.command.Word.{Word}
use Rattle.xh_script.specs.Operands.{name_in}
use Rattle.xh_session.specs.declared.bindings.TheConstants.{NOTHING}

-- the record of each name: a row for each process, from the process `first` on
pub record BlockNames : Type 0 where
  pub first : ℕ
  pub rows : List (List ℕ)

-- a row in which each name stands for nothing
abbrev pub nothings : List ℕ
nothings = replicate MAX_BLOCK_NAMES NOTHING

-- which row is a process's; past the last where its names are not here
unfoldable pub row_of : BlockNames → ℕ → ℕ
row_of b p = if nat_lt p b.first then length b.rows else p - b.first

-- the records of a process's names
abbrev pub row : BlockNames → ℕ → List ℕ
row b p = slice_index_or b.rows (row_of b p) []

-- a process's names stand for these from now on; those of all others stay
abbrev pub with_row : BlockNames → ℕ → List ℕ → BlockNames
with_row b p records = record b { rows = slice_set b.rows (row_of b p) records }

-- the names of one process alone
abbrev pub names_alone : BlockNames → ℕ → BlockNames
names_alone b p = record { first = p; rows = take 1 (drop (row_of b p) b.rows) }

-- the record that a process's name for a block stands for, and those of several names
abbrev pub record_at : BlockNames → ℕ → ℕ → ℕ
record_at b p x = slice_index_or (row b p) x NOTHING

abbrev pub records_of : BlockNames → ℕ → List (Word) → List ℕ
records_of b p xs = map (λ x. record_at b p (name_in x)) xs

-- a name stands for a record from now on
abbrev pub bound : BlockNames → ℕ → ℕ → ℕ → BlockNames
bound b p x r = with_row b p (slice_set (row b p) x r)

-- a name stands for a block, and stays where the block is missing
abbrev pub bound_block : BlockNames → ℕ → ℕ → Option Block → BlockNames
bound_block b p x None = b
bound_block b p x (Some block) = bound b p x block.rec

-- names stand for the blocks of a message, from left to right; the names past the last block stay
abbrev pub bound_each : BlockNames → ℕ → List (Word) → List (Option Block) → BlockNames
bound_each b p [] blocks = b
bound_each b p (x ∷ xs) [] = b
bound_each b p (x ∷ xs) (k ∷ blocks) = bound_each (bound_block b p (name_in x) k) p xs blocks

-- the entries, of which those that are a record become nothing
abbrev pub cleared : ℕ → List ℕ → List ℕ
cleared r entries = map (λ q. if q == r then NOTHING else q) entries

-- each name of a process that stands for a record is bound to nothing from now on; its other names stay
abbrev pub unbound : BlockNames → ℕ → ℕ → BlockNames
unbound b p r = with_row b p (cleared r (row b p))

-- that for each of several records
abbrev pub unbound_each : BlockNames → ℕ → List ℕ → BlockNames
unbound_each b p [] = b
unbound_each b p (r ∷ rs) = unbound_each (unbound b p r) p rs

-- all names of a process are bound to nothing
abbrev pub unbound_all : BlockNames → ℕ → BlockNames
unbound_all b p = with_row b p nothings
