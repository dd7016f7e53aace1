-- What an arena is, when it is lawful, within which limits one is made, and what each call on it does.
-- What follows of a call is proved in proofs/Calls.antt.
use Rattle.std.specs.Prelude.{◌≡◌, ◌≢◌, ℕ, ◌+◌, ◌-◌, ◌<◌, ◌≤◌, ◌%◌, List, Option, Some, None, IsSome, map, slice_index_or}
use Rattle.std.specs.List.{range_with_len}
use Rattle.xh_model.specs.Cover.{IsRun, IsFree, IsLeastFree, length_of, run_of, first_fit, carved, cut_past, given_back}
use Rattle.xh_model.specs.declared.limits.TheConstants.{UNIT, MAX_BYTES, MAX_RECORDS, MAX_WEAR}

-- an arena, as its callers see it: its cover, how many records it has, how many bytes were ever handed out, and how
-- many may ever be
pub record ArenaState : Type 0 where
  pub cover : List (Option ℕ)
  pub records : ℕ
  pub wear : ℕ
  pub limit : ℕ

-- the length of each record of an arena, in the order of the records
unfoldable pub lengths_of : ArenaState → List ℕ
lengths_of state = map (λ r. length_of r state.cover) (range_with_len 0 state.records)

-- the cover of an arena is lawful: each entry that is not nothing names a record of the arena, and the entries of each
-- record that has any are one run of units
pub record IsLawfulArena (state : ArenaState) : Type 0 where
  pub named : (i r : ℕ) → slice_index_or state.cover i None ≡ Some r → r < state.records
  pub runs : (r : ℕ) → 0 < length_of r state.cover → IsRun r state.cover

-- the limits of a new arena: its bytes are units, some and not too many; so are its records; and the bytes that may
-- ever be handed out are not too many
pub record AreLimits (size records limit : ℕ) : Type 0 where
  pub some_bytes : UNIT ≤ size
  pub most_bytes : size ≤ MAX_BYTES
  pub multiple : size % UNIT ≡ 0
  pub some_records : 1 ≤ records
  pub most_records : records ≤ MAX_RECORDS
  pub most_wear : limit ≤ MAX_WEAR

-- a cut after k bytes of a record of n bytes is good: k is some units, and some bytes are left past them
abbrev pub IsGoodCut : ℕ → ℕ → Type 0
IsGoodCut k n = (0 < k) × (k % UNIT ≡ 0) × (k < n)

-- what a carving does: the record r, which was empty, gets the first n bytes that are free in a row, from `at` on, and
-- they are worn; no more than the limit is
pub record IsCarved (r n at : ℕ) (old new : ArenaState) : Type 0 where
  pub known : r < old.records
  pub empty : length_of r old.cover ≡ 0
  pub some : 0 < n
  pub first : first_fit n old.cover ≡ Some at
  pub least : IsLeastFree n old.cover at
  pub change : new ≡ record old { cover = carved r at n old.cover; wear = old.wear + n }
  pub run : run_of r new.cover ≡ Some (at, n)
  pub within_limit : new.wear ≤ new.limit

-- what a cut does: the record r keeps its first k bytes, and those past them are the record t's, which was empty
pub record IsCut (r t k : ℕ) (old new : ArenaState) : Type 0 where
  pub known : r < old.records
  pub tail_known : t < old.records
  pub other : t ≢ r
  pub empty : length_of t old.cover ≡ 0
  pub good : IsGoodCut k (length_of r old.cover)
  pub change : new ≡ record old { cover = cut_past r t k old.cover }
  pub runs : (s n : ℕ) → run_of r old.cover ≡ Some (s, n) → (run_of r new.cover ≡ Some (s, k)) × (run_of t new.cover ≡ Some (s + k, n - k))

-- what a giving back does: the bytes of the record r, which had some, are nothing
pub record IsGivenBack (r : ℕ) (old new : ArenaState) : Type 0 where
  pub known : r < old.records
  pub held : 0 < length_of r old.cover
  pub change : new ≡ record old { cover = given_back r old.cover }

-- no place has n bytes that are free in a row
pub record HasNoSpace (n : ℕ) (arena : ArenaState) : Type 0 where
  pub none : first_fit n arena.cover ≡ None
  pub nowhere : (at : ℕ) → IsFree n arena.cover at → ⊥

-- a place has, but with n bytes more than were ever handed out the limit would be passed
pub record IsWorn (n : ℕ) (arena : ArenaState) : Type 0 where
  pub some : IsSome (first_fit n arena.cover)
  pub past : arena.limit < arena.wear + n
