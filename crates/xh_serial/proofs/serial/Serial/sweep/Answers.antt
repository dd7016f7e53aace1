use Rattle.xh_serial.proofs.Common.{ap, arith, blocks, length, sweep, sym, ◌-◌, ◌<◌, ◌∙◌}
use Rattle.xh_serial.proofs.Swept.{sweep_step}
use Rattle.xh_serial.proofs.serial.Serial.sweep.Goals as goal

pub loop-left-preserved : goal.loop-left-preserved
loop-left-preserved c =
    let l : c.args.from < length (blocks c.loop-left.self c.args.p) = (let e = c.count.ensures.value in let t = c.if-from-count.true in omega (arith, e, t)) in
    record {
      is = ap (sweep c.args.p c.args.from (c.loop-left.left - 1)) c.sweep_one.ensures.is
          ∙ (sym (sweep_step c.loop-left.left c.args.p c.args.from c.loop-left.self c.loop-left-test.true l) ∙ c.loop-left.invariant.is);
      bytes = (let d = c.loop-left.invariant.bytes in let e = c.sweep_one.ensures.bytes in omega (arith, d, e));
      small = omega arith;
      within = omega arith;
      current = c.sweep_one.ensures.current;
    }
