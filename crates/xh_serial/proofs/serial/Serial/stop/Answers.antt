use Rattle.xh_serial.proofs.Common.{Ended, Frees, IsWhole, Machine, ap, arith, arriving, blocks, length, refl, subst, sweep, sym, restated, ◌∙◌, ◌≡◌}
use Rattle.xh_serial.proofs.Closing.{ending, status_blocks, stop_frees, stop_sweeps}
use Rattle.xh_serial.proofs.serial.Serial.stop.Goals.{After-sweep-bytes}
use Rattle.xh_serial.proofs.serial.Serial.stop.Goals as goal

whole : (c : After-sweep-bytes) → IsWhole c.args.self.now
whole c = subst IsWhole c.self.view_is c.self.invariant

is : (c : After-sweep-bytes) → c.sweep-bytes.new.self ≡ sweep c.args.p 0 c.args.budget (ending c.args.p c.args.self.now)
is c = c.sweep-bytes.ensures.is ∙ ap (sweep c.args.p 0 c.args.budget) c.set_status.ensures

pub returns-then-left-gt0-clause-bound : goal.returns-then-left-gt0-clause-bound
returns-then-left-gt0-clause-bound c =
    let d = (goal.at.returns-then-left-gt0-clause-bound c).After-sweep-bytes in
    stop_sweeps c.args.self.now c.sweep-bytes.new.self c.sweep-bytes.new.self c.args.p c.args.budget (whole d) (is d) refl

pub returns-clause-frees : goal.returns-clause-frees
returns-clause-frees c = λ _.
    let d = (goal.at.returns-clause-frees c).After-sweep-bytes in
    let none : length (blocks c.sweep-bytes.new.self c.args.p) ≡ 0 = (let e = c.count-left.ensures.value in let z = c.if-left-gt0.false in omega (arith, e, z)) in
    subst (λ (x : Machine). Frees (arriving c.args.self.now) c.args.self.now.store x.store (blocks c.args.self.now c.args.p)) (sym c.set_status-2.ensures)
    (stop_frees c.args.self.now c.sweep-bytes.new.self c.args.p c.args.budget (whole d) (is d) none)

pub returns-clause-bound : goal.returns-clause-bound
returns-clause-bound c =
    let d = (goal.at.returns-clause-bound c).After-sweep-bytes in
    let same = status_blocks c.sweep-bytes.new.self c.args.p c.args.p Ended (subst IsWhole c.self-2.view_is c.self-2.invariant) in
    rw c.set_status-2.ensures
    (stop_sweeps c.args.self.now c.sweep-bytes.new.self (record c.sweep-bytes.new.self { places = restated c.args.p Ended c.sweep-bytes.new.self.places }) c.args.p c.args.budget (whole d) (is d) same)
