-- The commands alloc, split, read, write and free.
use Rattle.std.specs.Prelude.{ℕ, ◌+◌, ◌-◌, ◌/◌, ◌==◌, Bool, List, [], ◌∷◌, ◌++◌, None, is_none, length, take, drop, replicate, slice_set, Ok}
use Rattle.std.specs.List.{remove, position_or_len}
use Rattle.xh_model.specs.declared.limits.TheConstants.{MAX_RECORDS}
use Rattle.xh_model.specs.declared.event.Event.TheVariants.{Claim, Carve, Cut, GiveBack, Vacate}
use Rattle.xh_model.specs.Store.{arena_at, len, after}
use Rattle.xh_core.specs.declared.block.Block.{Block}
use Rattle.xh_core.specs.declared.refused.Refused.TheVariants.{OutOfMemory, NoRecord}
use Rattle.xh_core.specs.Calls.{start, alloc_tests, data_tests, split_tests, range_tests}
use Rattle.xh_core.specs.Refusing.{Tests, first_refusal}
use Rattle.xh_core.specs.Space.{free_record, lowest, rounded, space_tests}
use Rattle.xh_serial.specs.Machine.{Machine, blank, blocks, buffer, refilled, relisted, serial_status}
use Rattle.xh_serial.specs.Commands.{Answer, answered, header_found}

-- ---- alloc

-- what is tested before memory is taken
abbrev pub alloc_heads : Machine → ℕ → ℕ → ℕ → Tests
alloc_heads m p n a = start (serial_status m p) ++ alloc_tests a (length m.store.arenas) n (length (arena_at m.store a).cover) ++ (is_none (free_record m.store a), NoRecord) ∷ []

-- The first argument says whether a growth of memory is refused at that place.
abbrev pub alloc_refusals : Bool → Machine → ℕ → ℕ → ℕ → Tests
alloc_refusals is_refused m p n a = alloc_heads m p n a ++ (is_refused, OutOfMemory) ∷ space_tests m.store a (rounded n)

-- a free record is claimed and carved; its bytes are zeros, and it goes to the end of the list
unfoldable pub allocated : ℕ → ℕ → ℕ → Machine → Machine
allocated p r n m = record m {
  store = after (Carve p r n) (after (Claim p r) m.store);
  bodies = refilled r (replicate n 0) m.bodies;
  places = relisted p (blocks m p ++ r ∷ []) m.places;
}

unfoldable pub alloc : Bool → ℕ → ℕ → ℕ → Machine → Answer Block
alloc is_refused p n a m = answered (first_refusal (alloc_refusals is_refused m p n a)) m
    (Ok (record { rec = lowest m.store a; len = rounded n }), allocated p (lowest m.store a) (rounded n) m)

-- ---- split

abbrev pub split_heads : Machine → ℕ → ℕ → ℕ → Tests
split_heads m p r k = start (serial_status m p) ++ split_tests (header_found m p r) k ++ (is_none (free_record m.store (r / MAX_RECORDS)), NoRecord) ∷ []

abbrev pub split_refusals : Bool → Machine → ℕ → ℕ → ℕ → Tests
split_refusals is_refused m p r k = split_heads m p r k ++ (is_refused, OutOfMemory) ∷ []

-- a free record t is claimed and gets what is past the first k bytes of r; its bytes are cut in two
unfoldable pub parted : ℕ → ℕ → ℕ → ℕ → Machine → Machine
parted p r t k m = record m {
  store = after (Cut p r t k) (after (Claim p t) m.store);
  bodies = refilled t (drop k (buffer m r)) (refilled r (take k (buffer m r)) m.bodies);
  places = relisted p (blocks m p ++ t ∷ []) m.places;
}

unfoldable pub split : Bool → ℕ → ℕ → ℕ → Machine → Answer (Block × Block)
split is_refused p r k m =
    let t : ℕ = lowest m.store (r / MAX_RECORDS) in
    answered (first_refusal (split_refusals is_refused m p r k)) m
    (Ok (record { rec = r; len = k }, record { rec = t; len = len m.store r - k }), parted p r t k m)

-- ---- read and write

abbrev pub range_refusals : Machine → ℕ → ℕ → ℕ → ℕ → Tests
range_refusals m p r at n = start (serial_status m p) ++ range_tests (header_found m p r) at n

unfoldable pub read : ℕ → ℕ → ℕ → ℕ → Machine → Answer (List ℕ)
read p r at n m = answered (first_refusal (range_refusals m p r at n)) m (Ok (take n (drop at (buffer m r))), m)

-- these bytes stand in the place of as many from `at` on
abbrev pub overwritten : ℕ → List ℕ → List ℕ → List ℕ
overwritten at bytes old = take at old ++ (bytes ++ drop (at + length bytes) old)

unfoldable pub write : ℕ → ℕ → ℕ → List ℕ → Machine → Answer (Unit {0})
write p r at bytes m = answered (first_refusal (range_refusals m p r at (length bytes))) m
    (Ok tt, record m { bodies = refilled r (overwritten at bytes (buffer m r)) m.bodies })

-- ---- free

abbrev pub free_refusals : Machine → ℕ → ℕ → Tests
free_refusals m p r = start (serial_status m p) ++ data_tests (header_found m p r)

-- the bytes of a block are given back, its record is vacated, and it leaves the list
unfoldable pub freed_block : ℕ → ℕ → Machine → Machine
freed_block p r m = record m {
  store = after (Vacate p r) (after (GiveBack p r) m.store);
  bodies = slice_set m.bodies r (blank None);
  places = relisted p (remove (blocks m p) (position_or_len (λ q. q == r) (blocks m p))) m.places;
}

-- the length of the block
unfoldable pub free : ℕ → ℕ → Machine → Answer ℕ
free p r m = answered (first_refusal (free_refusals m p r)) m (Ok (len m.store r), freed_block p r m)
