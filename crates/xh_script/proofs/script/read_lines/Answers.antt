use Rattle.xh_script.proofs.Common.{map, slice_split, sym, ◌==◌, ◌∙◌, ◌≡◌}
use Rattle.std.proofs.lemmas.Result.{err_from_is_err_and}
use Rattle.xh_script.proofs.Readings.{goes_on, stops_at, lines_fit}
use Rattle.xh_script.proofs.script.read_lines.Goals as goal

pub loop-i-init : goal.loop-i-init
loop-i-init c =
    let lines : map (λ w. w.now) c.deref-line-items.result.now ≡ slice_split (λ b. b == 10) c.args.text.now = cc (c.deref-line-items.ensures.value, c.in_ok-lines.ensures) in
    record { rest = cc (lines, c.in_ok-so_far.ensures); short = lines_fit _ _ lines c.requires }

pub returns-in_err-read_line : goal.returns-in_err-read_line
returns-in_err-read_line c =
    let p = err_from_is_err_and c.from_residual-in_err-read_line.result c.from_residual-in_err-read_line.ensures.1 in
    rw (p.1, p.2, ← c.loop-i.invariant.rest) (stops_at c.in_err-read_line.field-0.0 c.deref-line-items.result.now c.loop-i.i c.loop-i.so_far c.loop-i-test.true c.in_err-read_line.ensures)

pub loop-i-preserved : goal.loop-i-preserved
loop-i-preserved c = record {
  rest = sym (goes_on c.deref-line-items.result.now c.loop-i.i c.loop-i.so_far c.read_line.new.so_far c.loop-i-test.true c.in_ok-read_line.ensures) ∙ c.loop-i.invariant.rest;
  short = c.loop-i.invariant.short;
}
