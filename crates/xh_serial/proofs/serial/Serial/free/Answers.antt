use Rattle.xh_serial.proofs.Common.{IsRunning, IsWhole, Machine, None, Process, end_of, free, freed_block, holds, machine_of, refl, subst, sym, true, ◌≡◌}
use Rattle.xh_serial.proofs.Closing.{freed_whole, listed_place}
use Rattle.xh_serial.proofs.serial.Serial.free.Goals.{In_ok-check_free}
use Rattle.xh_serial.proofs.serial.Serial.free.Goals as goal

-- ---- what the tests found

abbrev was : In_ok-check_free → Machine
was c = machine_of c.self.inside

runs : (c : In_ok-check_free) → IsRunning (was c) c.args.p
runs c = rw (← c.self.view_is) at c.in_ok-check_free.ensures.1.0

held : (c : In_ok-check_free) → holds (was c).store (Process c.args.p) c.args.r ≡ true
held c = rw (← c.self.view_is) at c.in_ok-check_free.ensures.1.1

pub remove-requires : goal.remove-requires
remove-requires c =
    let d = (goal.at.remove-requires c).In_ok-check_free in
    listed_place (was d) c.args.p c.args.r c.self.invariant (runs d) (held d)

-- ---- the machine after, which is that of the command

abbrev begun : goal.After-remove → In_ok-check_free
begun c = (goal.at.returns c).In_ok-check_free

made : (c : goal.After-remove) → record (was (begun c)) { store = c.discard-len.new.self; bodies = c.bind.new.self; places = c.remove.new.self } ≡
    freed_block c.args.p c.args.r (was (begun c))
unfolding freed_block
made c = rw (c.discard-len.ensures.store, c.bind.ensures, c.remove.ensures, (runs (begun c)).0) refl

pub invariant_of-self : goal.invariant_of-self
invariant_of-self c =
    let bare : end_of (was (begun c)) c.args.r ≡ None = rw (← c.self.view_is) at c.in_ok-check_free.ensures.1.2 in
    subst IsWhole (sym (made c)) (freed_whole (was (begun c)) c.args.p c.args.r c.self.invariant (held (begun c)) bare)

pub returns : goal.returns
unfolding free
returns c = rw (c.in_ok-check_free.ensures.0, made c, c.discard-len.ensures.length, ← c.self.view_is) refl
