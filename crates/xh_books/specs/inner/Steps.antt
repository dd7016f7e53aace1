-- What the steps of closing say: taking the accounts in, ending the places, closing the table, auditing.
use Rattle.std.specs.Prelude.{◌≡◌, ℕ, suc, ◌+◌, ◌/◌, ◌%◌, List, [], ◌∷◌, All, length, map, slice_get, slice_index, Some, sum}
use Rattle.std.specs.List.{sum_by}
use Rattle.atomic_table.specs.Seated.{TableId}
use Rattle.xh_arena.specs.Views.{LotOf, Move, TallyOf, VaultOf}
use Rattle.xh_core.specs.ArenaLines.{arena_line}
use Rattle.xh_core.specs.declared.flight.FlightLine.{FlightLine}
use Rattle.xh_core.specs.declared.ledger.ArenaLine.{ArenaLine}
use Rattle.xh_calls.specs.Parts.{vault_names}
use Rattle.xh_place.specs.declared.body.Body.{Body}
use Rattle.xh_model.specs.Keyed.{Distinct}
use Rattle.xh_place.specs.Places.{AreWhole, Lists, PlaceSeen}
use Rattle.xh_records.specs.declared.shape.Shape.{Shape}
use Rattle.xh_core.specs.Flight.{AreFlightLines}
use Rattle.xh_books.specs.Flight.{IsInFlight}
use Rattle.xh_books.specs.Ledgers.{all_lengths, arena_lines, bytes_in_flight, bytes_owned}

-- ---- the accounts

-- what a worker's tallies moved of an arena
abbrev pub move_at : ℕ → List TallyOf → Move
move_at a ts = record { number = slice_index (map (λ t. t.number) ts) a; taken = slice_index (map (λ t. t.taken) ts) a; back = slice_index (map (λ t. t.back) ts) a }

-- these moves, and those of more workers before them
abbrev pub with_moves : ℕ → List (List TallyOf) → List Move → List Move
with_moves a [] ms = ms
with_moves a (ts ∷ all) ms = with_moves a all (move_at a ts ∷ ms)

-- the vaults, from the arena with this number on, with the tallies of these workers taken in
abbrev pub with_all : ℕ → List (List TallyOf) → List VaultOf → List VaultOf
with_all a all [] = []
with_all a all (v ∷ vs) = record v { collected = with_moves a all v.collected } ∷ with_all (suc a) all vs

-- the line of a vault that took in all its tallies
abbrev pub closed_line : VaultOf → ArenaLine
closed_line v = record (arena_line v.arena) { taken = sum_by (λ m. m.taken) v.collected; back = sum_by (λ m. m.back) v.collected }

-- the vaults, from the arena with this number on, with the tallies of all workers taken in
pub record AreGathered (records : ℕ) (all : List (List TallyOf)) (a : ℕ) (old new : List VaultOf) : Type 0 where
  pub names : vault_names new ≡ vault_names old
  pub lengths : all_lengths new ≡ all_lengths old
  pub records_are : All (λ v. v.arena.records ≡ records) new
  pub full : All (λ v. length v.collected ≡ v.workers) new
  pub lines : map closed_line new ≡ arena_lines all a old

-- ---- the places

-- each block of its seat stands once in its list, which has no others, and is whole
pub record IsListed (p : PlaceSeen) : Type 0 where
  pub distinct : Distinct p.list
  pub lists : Lists p.seat.lots p.list
  pub whole : AreWhole p.seat.shape p.seat.lots

-- ---- the table

abbrev pub lens_of : List (LotOf Body) → List ℕ
lens_of = map (λ l. l.len)

-- each lot is of the vault of its arena, with n records in each
abbrev pub AreAt : ℕ → List TableId → List (LotOf Body) → Type 0
AreAt n names ls = (k : ℕ) (l : LotOf Body) → slice_get ls k ≡ Some l → (slice_get names (k / n) ≡ Some l.id) × (l.index ≡ k % n)

-- the lines are what is in flight, of records of these lengths, and their sum is that of the lengths of the records in no place's list; the other lengths are those that the places own
unfoldable pub TellFlight : Shape → List PlaceSeen → List ℕ → List FlightLine → Type 0
TellFlight s places lens lines = IsInFlight s places lens lines × AreFlightLines (bytes_in_flight places s.records 0 lens) lines
    × (sum lens ≡ bytes_owned places + bytes_in_flight places s.records 0 lens)
