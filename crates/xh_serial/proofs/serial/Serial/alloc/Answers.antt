use Rattle.xh_serial.proofs.Common.{Bool, Gained, IsRunning, IsWhole, Machine, None, OutOfMemory, Some, Store, Tests, [], alloc, alloc_heads, allocated, err_from_is_err_and, false, first_append}
use Rattle.xh_serial.proofs.Common.{first_later, first_refusal, free_record, in_range, len, length, machine_of, refl, rounded, space_tests, subst, sym, true, ℕ, ◌++◌, ◌<◌, ◌∷◌, ◌≡◌}
use Rattle.xh_core.proofs.Claiming.{IsFree, free_is}
use Rattle.xh_serial.proofs.Closing.{allocated_whole, free_there, room_for}
use Rattle.xh_serial.proofs.serial.Serial.alloc.Goals.{After-round-len}
use Rattle.xh_serial.proofs.serial.Serial.alloc.Goals as goal

-- what is tested after the first tests
abbrev later : Bool → ℕ → ℕ → Machine → Tests
later b n a m = (b, OutOfMemory) ∷ space_tests m.store a (rounded n)

pub returns-in_err-r-clause-done : goal.returns-in_err-r-clause-done
unfolding alloc
returns-in_err-r-clause-done c = λ _.
    let e = err_from_is_err_and c.from_residual.result c.from_residual.ensures.1 in
    let m : Machine = c.args.self.now in
    rw (e.1, e.2, first_append (alloc_heads m c.args.p c.args.n c.args.arena) (later false c.args.n c.args.arena m) c.in_err-r.field-0.0 c.in_err-r.ensures) refl

-- ---- what the tests found

abbrev was : After-round-len → Machine
was c = machine_of c.self.inside

runs : (c : After-round-len) → IsRunning (was c) c.args.p
runs c = rw (← c.self.view_is) at c.in_ok-r.ensures.1.0

tested : (c : After-round-len) → first_refusal (alloc_heads (was c) c.args.p c.args.n c.args.arena) ≡ None
tested c = rw (← c.self.view_is) at c.in_ok-r.ensures.0

lowest : (c : After-round-len) → free_record (was c).store c.args.arena ≡ Some c.in_ok-r.r
lowest c = rw (← c.self.view_is) at c.in_ok-r.ensures.1.1

-- the record that is taken is free
free : (c : After-round-len) → IsFree (was c).store c.args.arena c.in_ok-r.r
free c = free_is (was c).store c.args.arena c.in_ok-r.r c.self.invariant.store (lowest c)

there : (c : After-round-len) → c.in_ok-r.r < length (was c).store.owners
there c = in_range (was c).store c.in_ok-r.r c.self.invariant.store (free c).known

-- the tests that come first are passed
passed : (b : Bool) (c : After-round-len) → first_refusal (alloc_heads (was c) c.args.p c.args.n c.args.arena ++ later b c.args.n c.args.arena (was c)) ≡
    first_refusal (later b c.args.n c.args.arena (was c))
passed b c = first_later (alloc_heads (was c) c.args.p c.args.n c.args.arena) (later b c.args.n c.args.arena (was c)) (tested c)

pub returns-in_err-bytes-clause-refused : goal.returns-in_err-bytes-clause-refused
unfolding alloc
returns-in_err-bytes-clause-refused c = λ h. rw (h, ← c.self.view_is, passed true (goal.at.returns-in_err-bytes-clause-refused c).After-round-len) refl

pub allocate-requires-clause-known : goal.allocate-requires-clause-known
allocate-requires-clause-known c = (free (goal.at.allocate-requires-clause-known c).After-round-len).known

pub allocate-requires-clause-free : goal.allocate-requires-clause-free
allocate-requires-clause-free c = (free (goal.at.allocate-requires-clause-free c).After-round-len).free

pub fill-requires : goal.fill-requires
fill-requires c = let d = (goal.at.fill-requires c).After-round-len in free_there (was d) c.in_ok-r.r c.self.invariant (free d).known

pub add-requires : goal.add-requires
add-requires c =
    let d = (goal.at.add-requires c).After-round-len in
    room_for (was d) c.args.p c.in_ok-r.r c.self.invariant (runs d) (free d).free (there d)

pub returns-in-Err-clause-done : goal.returns-in-Err-clause-done
unfolding alloc
returns-in-Err-clause-done c = λ _.
    let d = (goal.at.returns-in-Err-clause-done c).After-round-len in
    let room : first_refusal (space_tests (was d).store c.args.arena (rounded c.args.n)) ≡ Some c.in-Err.refused = rw ((free d).arena, c.round-len.ensures) at c.in-Err.ensures.room in
    rw (c.in-Err.ensures.unchanged, ← c.self.view_is, passed false d, room) refl

-- ---- the machine after, which is that of the command

abbrev steps : goal.After-add → After-round-len
steps c = (goal.at.returns-clause-done c).After-round-len

abbrev is : goal.After-add → Machine
is c = record (machine_of c.self.inside) { store = c.allocate.new.self; bodies = c.fill.new.self; places = c.add.new.self }

made : (c : goal.After-add) → is c ≡ allocated c.args.p c.in_ok-r.r c.round-len.result (was (steps c))
unfolding allocated
made c = rw (c.in_default.ensures.store, c.fill.ensures, c.in_ok-bytes.ensures, c.add.ensures, (runs (steps c)).0) refl

pub invariant_of-self-2 : goal.invariant_of-self-2
invariant_of-self-2 c =
    let d = steps c in
    let store = c.in_default.ensures.store in
    subst IsWhole (sym (made c)) (allocated_whole (was d) c.args.p c.in_ok-r.r c.round-len.result c.self.invariant (runs d)
    (subst (λ (t : Store). Gained c.args.p (c.in_ok-r.r ∷ []) (was d).store t) store c.in_default.ensures.gained) (free d).free (there d)
    (subst (λ (t : Store). len t c.in_ok-r.r ≡ c.round-len.result) store c.in_default.ensures.length)
    (λ q ne. subst (λ (t : Store). len t q ≡ len (was d).store q) store (c.in_default.ensures.others q ne)))

pub returns-clause-done : goal.returns-clause-done
unfolding alloc
returns-clause-done c = λ _.
    let d = steps c in
    let room : first_refusal (space_tests (was d).store c.args.arena (rounded c.args.n)) ≡ None = rw ((free d).arena, c.round-len.ensures) at c.in_default.ensures.room in
    rw (made c, c.round-len.ensures, ← c.self.view_is, passed false d, room, lowest d) refl
