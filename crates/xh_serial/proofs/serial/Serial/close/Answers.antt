use Rattle.xh_serial.proofs.Common.{IsWhole, Machine, Ok, all_out, ap, arith, blocks, close, closed, length, moved_last, subst, sweep, sym, ℕ, ◌-◌, ◌∙◌, ◌≡◌}
use Rattle.xh_serial.proofs.Closing.{close_frees, close_sweeps}
use Rattle.xh_serial.proofs.serial.Serial.close.Goals.{After-sweep}
use Rattle.xh_serial.proofs.serial.Serial.close.Goals as goal

-- where the endpoint stands once it was moved
abbrev from : After-sweep → ℕ
from c = length (blocks c.args.self.now c.args.p) - 1

abbrev moved : After-sweep → Machine
moved c = moved_last c.args.p c.args.e c.args.self.now

is : (c : After-sweep) → c.sweep.new.self ≡ sweep c.args.p (from c) 4096 (moved c)
is c = c.sweep.ensures.is ∙ (λ i. sweep c.args.p (c.move_last-from.ensures.at i) 4096 (c.move_last-from.ensures.is i))

whole : (c : After-sweep) → IsWhole c.args.self.now
whole c = subst IsWhole c.self.view_is c.self.invariant

pub returns : goal.returns
unfolding close closed
returns c =
    let d = (goal.at.returns c).After-sweep in
    let m : Machine = c.args.self.now in
    let same : all_out c.move_last-from.new.self.store ≡ all_out m.store = ap (λ (x : Machine). all_out x.store) c.move_last-from.ensures.is in
    let b : c.sweep.result ≡ all_out m.store - all_out c.sweep.new.self.store = (let s = c.sweep.ensures.bytes in omega (arith, s, same)) in
    let answer : all_out m.store - all_out (sweep c.args.p (from d) 4096 (moved d)).store ≡ c.sweep.result = ap (λ (x : Machine). all_out m.store - all_out x.store) (sym (is d)) ∙ sym b in
    let may = c.in_ok-check_close.ensures in record {
      is = rw may.0 (λ i. (Ok (answer i), sym (is d) i));
      frees = λ _. close_frees 4096 m c.sweep.new.self c.args.p c.args.e (whole d) may.1.0 may.1.1 (omega arith) (is d);
      bound = λ _. close_sweeps 4096 m c.sweep.new.self c.args.p c.args.e (whole d) may.1.0 may.1.1 (is d);
    }
