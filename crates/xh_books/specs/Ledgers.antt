-- The ledger of closed books: what it says of the vaults, the places and the accounts that were handed in.
use Rattle.std.specs.Prelude.{◌≡◌, ℕ, suc, ◌+◌, Bool, cond, is_some, List, [], ◌∷◌, All, map, slice_index}
use Rattle.std.specs.List.{filter_map, flat_map, list_any, sum_by}
use Rattle.xh_arena.specs.Views.{TallyOf, VaultOf}
use Rattle.xh_core.specs.ArenaLines.{arena_line}
use Rattle.xh_core.specs.declared.ledger.ArenaLine.{ArenaLine}
use Rattle.xh_core.specs.declared.ledger.Ledger.{Ledger}
use Rattle.xh_core.specs.declared.ledger.PlaceLine.{PlaceLine}
use Rattle.xh_model.specs.Arena.{lengths_of}
use Rattle.xh_model.specs.Keyed.{value_at}
use Rattle.xh_model.specs.Words.{number_of}
use Rattle.xh_place.specs.Places.{Item, PlaceSeen, place_line, line_in, shown, total_of}

-- ---- arenas

-- the lines of the arenas from a number on: what each vault says of size, bytes handed out and holes, and what the tallies of all workers took and gave back
abbrev pub arena_lines : List (List TallyOf) → ℕ → List VaultOf → List ArenaLine
arena_lines tallies arena [] = []
arena_lines tallies arena (v ∷ vs) = record (arena_line v.arena) {
  taken = sum_by (λ ts. slice_index (map (λ t. t.taken) ts) arena) tallies;
  back = sum_by (λ ts. slice_index (map (λ t. t.back) ts) arena) tallies;
} ∷ arena_lines tallies (suc arena) vs

-- the lengths of all records of the vaults, in order
abbrev pub all_lengths : List VaultOf → List ℕ
all_lengths = flat_map (λ v. lengths_of v.arena)

-- ---- places

-- the lines of the places, in their order; one that nobody has had has none
abbrev pub place_lines : List PlaceSeen → List PlaceLine
place_lines = filter_map (λ p. line_in p.state (place_line p))

-- the sum of the places' totals
abbrev pub bytes_owned : List PlaceSeen → ℕ
bytes_owned = sum_by total_of

-- the blocks of a place's list
abbrev pub blocks_of : PlaceSeen → List (ℕ × Item)
blocks_of p = shown p.seat.lots p.list

-- whether the record stands in some place's list
abbrev pub is_listed : ℕ → List PlaceSeen → Bool
is_listed r = list_any (λ p. is_some (value_at r (blocks_of p)))

-- ---- what is in flight

-- the bytes of the records that stand in no place's list, of these lengths from the index k on, with n records in each arena
abbrev pub bytes_in_flight : List PlaceSeen → ℕ → ℕ → List ℕ → ℕ
bytes_in_flight places n k [] = 0
bytes_in_flight places n k (x ∷ xs) = cond (is_listed (number_of n k) places) 0 x + bytes_in_flight places n (k + 1) xs

-- ---- the sums

-- each arena has handed out what was taken of it less what came back; the sums are those of the lines; what was handed out is owned or in flight
pub record IsBalanced (l : Ledger) : Type 0 where
  pub arenas : All (λ a. a.taken ≡ a.back + a.out) l.arenas.items
  pub owned : l.owned ≡ sum_by (λ p. p.bytes) l.places.items
  pub out : l.out ≡ sum_by (λ a. a.out) l.arenas.items
  pub all : l.out ≡ l.owned + l.flight
