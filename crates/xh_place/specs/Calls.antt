-- What the calls of a process do to its place, and why they are refused. In each relation `status` says how far the process that calls has come: of that are its first tests.
use Rattle.std.specs.Borrow.{Bor, MutBor}
use Rattle.std.specs.Fn.{CalledAt, CalledAtMut, Mut}
use Rattle.std.specs.Prelude.{◌≡◌, ℕ, ◌-◌, ◌/◌, ◌==◌, cond, List, [], ◌∷◌, ◌++◌, length, replicate, Some, Result, Err, IfErr, IfOk, MatchOption, OnErr, option_map}
use Rattle.xh_arena.specs.declared.refused.Refused.{Refused as ArenaRefused}
use Rattle.xh_arena.specs.declared.refused.Refused.TheVariants as arena
use Rattle.xh_arena.specs.Views.{LotOf, VaultOf}
use Rattle.xh_core.specs.declared.block.Block.{Block}
use Rattle.xh_core.specs.declared.refused.Refused.{Refused}
use Rattle.xh_core.specs.declared.refused.Refused.TheVariants.{NoRecord, NoSpace, OutOfMemory, Worn}
use Rattle.xh_core.specs.declared.status.Status.{Status}
use Rattle.xh_core.specs.declared.status.Status.TheVariants.{Ending, Ended}
use Rattle.xh_core.specs.Calls.{alloc_tests, data_tests, end_tests, range_tests, reclaimed, split_tests, start, stop}
use Rattle.xh_core.specs.Headers.{len_in}
use Rattle.xh_core.specs.Refusing.{Tested, Tests, first_refusal}
use Rattle.xh_core.specs.Space.{rounded}
use Rattle.xh_model.specs.declared.limits.TheConstants.{MAX_RECORDS}
use Rattle.xh_model.specs.declared.event.Event.{Event}
use Rattle.xh_model.specs.Keyed.{put, value_at, without}
use Rattle.xh_records.specs.Seats.{Held}
use Rattle.xh_place.specs.declared.body.Body.{Body}
use Rattle.xh_place.specs.Bodies.{Content, bytes, content_of, endpoint, bytes_part, patched}
use Rattle.xh_place.specs.Reclaiming.{IsClosed, Sweeps}
use Rattle.xh_place.specs.Deeds.{claimed, vacated}
use Rattle.xh_place.specs.Places.{Item, PlaceSeen, found, item_of, shown}
use Rattle.xh_place.specs.Seen.{Becomes, FindsFull, IsSeen, LeavesIt, Stays, less}
use Rattle.xh_place.specs.Splitting.{IsSplit, IsUncut}
use Rattle.xh_place.specs.Vaults.{IsRefusedAt}

-- the call answers the first refusal whose test is true, and then these stay as they were; where none is, it does what is said
abbrev pub RefusedOr : {A : Type 0} → Tests → Result A Refused → Type 0 → Type 0 → Type 0
RefusedOr tests result same done = MatchOption (first_refusal tests) done (λ refused. (result ≡ Err refused) × same)

-- ---- alloc

-- how many arenas there are, and of how many bytes; and what it is that an arena's vault refuses to carve so many, for this reason
pub record SpaceOf : Type 1 where
  pub arenas : ℕ
  pub size : ℕ
  pub refuses : ℕ → ℕ → ArenaRefused → Type 0

-- so do the vaults say from old to new
abbrev pub space_at : {V : Type 0} → (V → V → ℕ → VaultOf → VaultOf → Type 0) → (V → ℕ) → ℕ → V → V → SpaceOf
space_at changes extent arenas old new = record { arenas = arenas; size = extent old; refuses = IsRefusedAt changes old new }

-- no record was free, as `full` says, or no memory was had; or the vault refused
abbrev pub IsLack : Type 0 → (ArenaRefused → Type 0) → Refused → Type 0
IsLack full refuses NoRecord = full
IsLack full refuses OutOfMemory = Unit {0}
IsLack full refuses NoSpace = refuses arena.NoSpace
IsLack full refuses Worn = refuses arena.Worn
IsLack full refuses _ = ⊥

-- these bytes, and zeros up to n
abbrev pub padded : ℕ → List ℕ → List ℕ
padded n xs = xs ++ replicate (n - length xs) 0

-- a new data block of at least n bytes of the arena, these and zeros, is the last of the list, and its record was claimed; or a record was claimed in vain, if any, and none where a test refused
pub record Makes (status : Status) (space : SpaceOf) (n : ℕ) (xs : List ℕ) (arena : ℕ) (old new : PlaceSeen) (result : Result Block Refused) : Type 0 where
  pub made : IfOk result (λ b. (l : LotOf Body) × (item_of l ≡ record { len = b.len; content = bytes (padded b.len xs) })
      × Becomes (old.seat.lots ++ (b.rec, l) ∷ []) (old.list ++ b.rec ∷ []) (claimed old.seat.process (b.rec ∷ [])) old new)
  pub block : IfOk result (λ b. (b.len ≡ rounded n) × (b.rec / MAX_RECORDS ≡ arena))
  pub refused : OnErr result (LeavesIt 1 arena old new)
  pub why : MatchOption (first_refusal (start status ++ alloc_tests arena space.arenas n space.size))
      (IfErr result (IsLack (FindsFull 0 old.seat new.seat arena) (space.refuses arena (rounded n)))) (λ refused. (result ≡ Err refused) × Stays old new)

-- the same of zeros alone
abbrev pub Allocates : Status → SpaceOf → ℕ → ℕ → PlaceSeen → PlaceSeen → Result Block Refused → Type 0
Allocates status space n arena old new result = Makes status space n [] arena old new result

-- ---- split

-- the block is cut after its first k bytes; or a record was claimed in vain, if any, and none where a test refused
pub record Splits (status : Status) (r k : ℕ) (old new : PlaceSeen) (result : Result (Block × Block) Refused) : Type 0 where
  pub cut : IfOk result (λ ends. IsSplit old new r k ends.0 ends.1)
  pub refused : OnErr result (LeavesIt 1 (r / MAX_RECORDS) old new)
  pub why : MatchOption (first_refusal (start status ++ split_tests (found old.seat r) k))
      (IfErr result (IsUncut (FindsFull 0 old.seat new.seat (r / MAX_RECORDS)))) (λ refused. (result ≡ Err refused) × Stays old new)

-- ---- read, write

-- these bytes are those of the block from `at` on, and the place is as it was
pub record Reads (status : Status) (r at : ℕ) (xs : List ℕ) (old new : PlaceSeen) (result : Result (Unit {0}) Refused) : Type 0 where
  pub same : Stays old new
  pub read : Tested (start status ++ range_tests (found old.seat r) at (length xs)) result
      (λ _. (l : LotOf Body) × (value_at r old.seat.lots ≡ Some l) × (xs ≡ bytes_part at (length xs) (content_of l.body)))

-- these bytes stand in the block from `at` on
pub record Writes (status : Status) (r at : ℕ) (xs : List ℕ) (old new : PlaceSeen) (result : Result (Unit {0}) Refused) : Type 0 where
  pub written : Tested (start status ++ range_tests (found old.seat r) at (length xs)) result
      (λ _. (l m : LotOf Body) × (value_at r old.seat.lots ≡ Some l) × (item_of m ≡ record (item_of l) { content = patched at xs (content_of l.body) })
      × Becomes (put r m old.seat.lots) old.list [] old new)
  pub refused : OnErr result (Stays old new)

-- ---- a block in place

-- a data block of these bytes and no others
abbrev pub made_of : List ℕ → Item
made_of xs = record { len = length xs; content = bytes xs }

-- the bytes of a block: none of an endpoint
abbrev pub bytes_in : Content → List ℕ
bytes_in (bytes xs) = xs
bytes_in (endpoint e) = []

-- the block of the record has these bytes and no others
abbrev pub HasBytes : ℕ → Held Body → List ℕ → Type 0
HasBytes r seat xs = option_map item_of (value_at r seat.lots) ≡ Some (made_of xs)

-- one call of the function had the bytes of the block, all of them, and the place is as it was; or it is refused as a read of no bytes is
pub record Lends {F A : Type 0} (g : Mut F (Bor (List ℕ) × Unit {0}) A) (status : Status) (r : ℕ) (f f' : F) (old new : PlaceSeen) (result : Result A Refused) : Type 0 where
  pub same : Stays old new
  pub lent : Tested (start status ++ range_tests (found old.seat r) 0 0) result (λ a. (xs : List ℕ) × HasBytes r old.seat xs × CalledAt g f xs a f')
  pub uncalled : OnErr result (f' ≡ f)

-- the same of a function that may change them: as many as it left stand in the block in their place
pub record LendsMut {F A : Type 0} (g : Mut F (MutBor (List ℕ) × Unit {0}) (A × (MutBor (List ℕ) × Unit {0}))) (status : Status) (r : ℕ) (f f' : F) (old new : PlaceSeen)
    (result : Result A Refused) : Type 0 where
  pub lent : Tested (start status ++ range_tests (found old.seat r) 0 0) result (λ a. (xs left : List ℕ) × (m : LotOf Body) × HasBytes r old.seat xs
      × CalledAtMut g f xs a f' left × (length left ≡ length xs) × (item_of m ≡ made_of left)
      × Becomes (put r m old.seat.lots) old.list [] old new)
  pub refused : OnErr result (Stays old new)
  pub uncalled : OnErr result (f' ≡ f)

-- ---- free

-- the block is gone, its record was vacated, and the answer is what `tells` says of it
pub record GivesUp {A : Type 0} (tells : A → Type 0) (status : Status) (r : ℕ) (old new : PlaceSeen) (result : Result A Refused) : Type 0 where
  pub freed : Tested (start status ++ data_tests (found old.seat r)) result (λ a. tells a × Becomes (without r old.seat.lots) (less r old.list) (vacated old.seat.process r) old new)
  pub refused : OnErr result (Stays old new)

-- the answer is its length
abbrev pub FreesBlock : Status → ℕ → PlaceSeen → PlaceSeen → Result ℕ Refused → Type 0
FreesBlock status r old new result = GivesUp (λ n. n ≡ len_in (found old.seat r)) status r old new result

-- ---- close, stop

-- the endpoint is gone, and what was on its way to it; so many bytes came back
abbrev pub Closes : Status → ℕ → ℕ → PlaceSeen → PlaceSeen → Result ℕ Refused → Type 0
Closes status e back old new result = RefusedOr (start status ++ end_tests (found old.seat e)) result (Stays old new × (back ≡ 0)) (IsClosed e old new back result)

-- the whole list is swept, as far as the budget goes; so many bytes came back
abbrev pub Stops : Status → ℕ → ℕ → PlaceSeen → PlaceSeen → Result ℕ Refused → Type 0
Stops status budget back old new result = RefusedOr (stop status) result (Stays old new × (back ≡ 0)) ((log : List (Event × Item))
    × Sweeps (IsSeen old.seat new.seat) old.seat.process budget (shown old.seat.lots old.list) (shown new.seat.lots new.list) back log
    × Becomes new.seat.lots new.list log (record old { state = cond (length new.list == 0) Ended Ending }) new
    × (result ≡ reclaimed back (length new.list)))
