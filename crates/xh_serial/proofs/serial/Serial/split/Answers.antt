use Rattle.xh_serial.proofs.Common.{Bool, Gained, IsWhole, Machine, MaySplit, None, OutOfMemory, Process, Store, Tests, [], arith, err_from_is_err_and, false, first_append, first_later}
use Rattle.xh_serial.proofs.Common.{first_refusal, in_range, is_there, len, length, machine_of, parted, refl, split, split_heads, subst, sym, true, ◌+◌, ◌/◌, ◌<◌, ◌∷◌, ◌≡◌, ◌≢◌}
use Rattle.xh_core.proofs.Claiming.{IsFree, apart, free_is}
use Rattle.xh_serial.proofs.Closing.{free_there, parted_whole, room_for}
use Rattle.xh_serial.proofs.serial.Serial.split.Goals.{In_ok-t}
use Rattle.xh_serial.proofs.serial.Serial.split.Goals as goal

-- what is tested after the first tests
abbrev later : Bool → Tests
later b = (b, OutOfMemory) ∷ []

pub returns-in_err-t-clause-done : goal.returns-in_err-t-clause-done
unfolding split
returns-in_err-t-clause-done c = λ _.
    let e = err_from_is_err_and c.from_residual.result c.from_residual.ensures.1 in
    rw (e.1, e.2, first_append (split_heads c.args.self.now c.args.p c.args.r c.args.k) (later false) c.in_err-t.field-0.0 c.in_err-t.ensures) refl

-- ---- what the tests found

abbrev was : In_ok-t → Machine
was c = machine_of c.self.inside

tested : (c : In_ok-t) → first_refusal (split_heads (was c) c.args.p c.args.r c.args.k) ≡ None
tested c = rw (← c.self.view_is) at c.in_ok-t.ensures.0

may : (c : In_ok-t) → MaySplit (was c) c.args.p c.args.r c.args.k c.in_ok-t.t
may c = subst (λ (x : Machine). MaySplit x c.args.p c.args.r c.args.k c.in_ok-t.t) (sym c.self.view_is) c.in_ok-t.ensures.1

-- the record for the tail is free, and another one
free : (c : In_ok-t) → IsFree (was c).store (c.args.r / 256) c.in_ok-t.t
free c = free_is (was c).store (c.args.r / 256) c.in_ok-t.t c.self.invariant.store (may c).found

there : (c : In_ok-t) → c.in_ok-t.t < length (was c).store.owners
there c = in_range (was c).store c.in_ok-t.t c.self.invariant.store (free c).known

other : (c : In_ok-t) → c.args.r ≢ c.in_ok-t.t
other c = apart (was c).store c.args.p c.args.r c.in_ok-t.t (may c).held (free c).free

pub split-requires-clause-other : goal.split-requires-clause-other
split-requires-clause-other c =
    let d = (goal.at.split-requires-clause-other c).In_ok-t in
    free_there (was d) c.in_ok-t.t c.self.invariant (free d).known

pub returns-in_err-split-clause-refused : goal.returns-in_err-split-clause-refused
unfolding split
returns-in_err-split-clause-refused c = λ h.
    let d = (goal.at.returns-in_err-split-clause-refused c).In_ok-t in
    rw (h, c.in_err-split.ensures.kept, ← c.self.view_is, first_later (split_heads (was d) c.args.p c.args.r c.args.k) (later true) (tested d)) refl

pub part-requires-clause-known : goal.part-requires-clause-known
part-requires-clause-known c = (free (goal.at.part-requires-clause-known c).In_ok-t).known

pub part-requires-clause-free : goal.part-requires-clause-free
part-requires-clause-free c = (free (goal.at.part-requires-clause-free c).In_ok-t).free

pub part-requires-clause-arena : goal.part-requires-clause-arena
part-requires-clause-arena c = sym (free (goal.at.part-requires-clause-arena c).In_ok-t).arena

pub add-requires : goal.add-requires
add-requires c =
    let d = (goal.at.add-requires c).In_ok-t in
    room_for (was d) c.args.p c.in_ok-t.t c.self.invariant (may d).runs (free d).free (there d)

-- ---- the machine after, which is that of the command

abbrev begun : goal.After-add → In_ok-t
begun c = (goal.at.returns-clause-done c).In_ok-t

made : (c : goal.After-add) → record (was (begun c)) { store = c.part.new.self; bodies = c.split.new.self; places = c.add.new.self } ≡
    parted c.args.p c.args.r c.in_ok-t.t c.args.k (was (begun c))
unfolding parted
made c = rw (c.part.ensures.store, c.in_ok-split.ensures.done, c.add.ensures, (may (begun c)).runs.0) refl

pub invariant_of-self-2 : goal.invariant_of-self-2
invariant_of-self-2 c =
    let d = begun c in
    let m : Machine = was d in
    let inside = (may d).inside in
    let store = c.part.ensures.store in
    subst IsWhole (sym (made c)) (parted_whole m c.args.p c.args.r c.in_ok-t.t c.args.k c.self.invariant (may d).runs
    (subst (λ (u : Store). Gained c.args.p (c.in_ok-t.t ∷ []) m.store u) store c.part.ensures.gained) (may d).no_end (free d).free (other d)
    (is_there m.store (Process c.args.p) c.args.r (may d).held) (there d) (omega (arith, inside))
    (subst (λ (u : Store). len u c.args.r ≡ c.args.k) store c.part.ensures.head)
    (subst (λ (u : Store). len u c.in_ok-t.t + c.args.k ≡ len m.store c.args.r) store c.part.ensures.tail)
    (λ q nr nt. subst (λ (u : Store). len u q ≡ len m.store q) store (c.part.ensures.others q nr nt)))

pub returns-clause-done : goal.returns-clause-done
unfolding split
returns-clause-done c = λ _.
    let d = begun c in
    rw (made c, c.len.ensures, ← c.self.view_is, first_later (split_heads (was d) c.args.p c.args.r c.args.k) (later false) (tested d), (may d).found) refl
