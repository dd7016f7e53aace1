-- Free records and room for bytes: what an arena has, and why it has none.
use Rattle.std.specs.Prelude.{ℕ, ◌+◌, ◌-◌, ◌*◌, ◌/◌, ◌%◌, ◌==◌, ◌||◌, Bool, not, [], ◌∷◌}
use Rattle.std.specs.Prelude.{Option, is_none, nat_le, nat_lt, unwrap_or}
use Rattle.std.specs.List.{find, range_with_len}
use Rattle.xh_model.specs.declared.limits.TheConstants.{END_BYTES, MAX_HELD, MAX_RECORDS, UNIT}
use Rattle.xh_model.specs.declared.event.Event.TheVariants.{Claim}
use Rattle.xh_model.specs.Cover.{first_fit}
use Rattle.xh_model.specs.Store.{Store, arena_at, owner, after}
use Rattle.xh_core.specs.declared.refused.Refused.TheVariants.{NoSpace, NoRecord, Worn}
use Rattle.xh_core.specs.Refusing.{Tests}

-- the number of the lowest free record of an arena, if there is one
abbrev pub free_record : Store → ℕ → Option ℕ
free_record s a = find (λ r. is_none (owner s r)) (range_with_len (MAX_RECORDS * a) (arena_at s a).records)

-- the same; where there is none, a number that no record has
abbrev pub lowest : Store → ℕ → ℕ
lowest s a = unwrap_or (free_record s a) MAX_HELD

-- n bytes as the arena hands them out: the next multiple of the unit
abbrev pub rounded : ℕ → ℕ
rounded n = ((n + (UNIT - 1)) / UNIT) * UNIT

abbrev pub is_bad_cut : ℕ → ℕ → Bool
is_bad_cut k n = (k == 0) || (not ((k % UNIT) == 0) || nat_le n k)

-- no hole of the arena holds n bytes, or they would wear it past its limit
abbrev pub space_tests : Store → ℕ → ℕ → Tests
space_tests s a n = (is_none (first_fit n (arena_at s a).cover), NoSpace) ∷ (nat_lt (arena_at s a).limit ((arena_at s a).wear + n), Worn) ∷ []

-- ---- the two ends of a channel

-- the records of the two ends: the lowest free one, and the lowest free one after that
abbrev pub low_end : Store → ℕ → ℕ
low_end s a = lowest s a

abbrev pub claimed_once : ℕ → Store → ℕ → Store
claimed_once p s a = after (Claim p (low_end s a)) s

abbrev pub high_end : ℕ → Store → ℕ → ℕ
high_end p s a = lowest (claimed_once p s a) a

-- no two free records, or no room for 64 bytes
abbrev pub pair_tests : ℕ → Store → ℕ → Tests
pair_tests p s a = (is_none (free_record s a) || is_none (free_record (claimed_once p s a) a), NoRecord) ∷ space_tests s a (2 * END_BYTES)
