use Rattle.xh_serial.proofs.Common.{place, IsRunning, IsWhole, Machine, Process, ap, arith, blocks, holds, length, machine_of, moved_last, refl, subst, sym, true, ◌∙◌, ◌≡◌}
use Rattle.xh_serial.proofs.Machines.{current_blocks}
use Rattle.xh_serial.proofs.Closing.{last_whole, listed_place}
use Rattle.xh_serial.proofs.serial.Serial.move_last.Goals.{After-self}
use Rattle.xh_serial.proofs.serial.Serial.move_last.Goals as goal

abbrev was : After-self → Machine
was c = machine_of c.self.inside

runs : (c : After-self) → IsRunning (was c) c.args.p
runs c = subst (λ (x : Machine). IsRunning x c.args.p) (sym c.self.view_is) c.requires.runs

held : (c : After-self) → holds (was c).store (Process c.args.p) c.args.e ≡ true
held c = ap (λ (x : Machine). holds x.store (Process c.args.p) c.args.e) c.self.view_is ∙ c.requires.held

pub move_last-requires : goal.move_last-requires
move_last-requires c =
    let d = (goal.at.move_last-requires c).After-self in
    listed_place (was d) c.args.p c.args.e c.self.invariant (runs d) (held d)

-- ---- the machine after

abbrev begun : goal.After-move_last → After-self
begun c = (goal.at.returns-clause-is c).After-self

list_is : (c : goal.After-move_last) → blocks (was (begun c)) c.args.p ≡ (place (was (begun c)).places c.args.p).blocks.items
list_is c = current_blocks (was (begun c)) c.args.p (runs (begun c)).0

made : (c : goal.After-move_last) → record (was (begun c)) { places = c.move_last.new.self } ≡ moved_last c.args.p c.args.e (was (begun c))
made c = rw (c.move_last.ensures.list, (runs (begun c)).0) refl

pub invariant_of-self : goal.invariant_of-self
invariant_of-self c = subst IsWhole (sym (made c)) (last_whole (was (begun c)) c.args.p c.args.e c.self.invariant (runs (begun c)) (held (begun c)))

pub returns-clause-is : goal.returns-clause-is
returns-clause-is c = made c ∙ ap (moved_last c.args.p c.args.e) c.self.view_is

pub returns-clause-at : goal.returns-clause-at
returns-clause-at c =
    let here = c.move_last.ensures.at in
    let long : length (blocks (was (begun c)) c.args.p) ≡ length (place (was (begun c)).places c.args.p).blocks.items = ap length (list_is c) in
    let same = ap (λ (x : Machine). length (blocks x c.args.p)) c.self.view_is in
    omega (arith, here, long, same)
