use Rattle.xh_serial.proofs.Common.{BodyOf, IsWhole, List, Machine, None, Process, arith, buffer, common_steps, end_of, holds, is_there, len, length, machine_of, overwritten, refl, subst, sym, true}
use Rattle.xh_serial.proofs.Common.{write, ◌+◌, ◌∙◌, ◌≡◌, ◌≤◌}
use Rattle.xh_serial.proofs.Closing.{written_whole}
use Rattle.xh_serial.proofs.serial.Serial.write.Goals as goal

pub invariant_of-self : goal.invariant_of-self
invariant_of-self c =
    let m : Machine = machine_of c.self.inside in
    let held : holds m.store (Process c.args.p) c.args.r ≡ true = rw (← c.self.view_is) at c.in_ok-check_range.ensures.1.0 in
    let bare : end_of m c.args.r ≡ None = rw (← c.self.view_is) at c.in_ok-check_range.ensures.1.1 in
    let room : c.args.at + length c.args.bytes.now ≤ len m.store c.args.r = rw (← c.self.view_is) at c.in_ok-check_range.ensures.1.2 in
    let long : length (buffer m c.args.r) ≡ len m.store c.args.r = c.self.invariant.bytes c.args.r ∙ rw bare refl in
    let same : length (overwritten c.args.at c.args.bytes.now (buffer m c.args.r)) ≡ length (buffer m c.args.r) = grind (arith, common_steps, room, long) in
    subst (λ (bodies : List BodyOf). IsWhole (record m { bodies = bodies })) (sym c.overwrite.ensures)
    (written_whole m c.args.r _ c.self.invariant (rw c.self.invariant.bodies (is_there m.store (Process c.args.p) c.args.r held)) same)

pub returns : goal.returns
unfolding write
returns c = rw (c.in_ok-check_range.ensures.0, c.overwrite.ensures, ← c.self.view_is) refl
