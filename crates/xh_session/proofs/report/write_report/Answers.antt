use Rattle.std.proofs.Common.{[], rules}
use Rattle.xh_session.proofs.Common.{Err, if◌then◌else◌, refl, ◌≡◌}
use Rattle.xh_script.proofs.Writings.{Writes-then, WritesOrFails-then, passes, stops}
use Rattle.xh_session.proofs.Ends.{flushed}
use Rattle.xh_session.proofs.report.write_report.Goals as goal

pub returns-in_err-write_answers : goal.returns-in_err-write_answers
returns-in_err-write_answers g c = rw (← c.deref.ensures.value)
    (stops g.W.Write.contents _ _ _ _ _ _ c.from_residual.ensures.1 (stops g.W.Write.contents _ _ (Err _) _ _ _ refl c.in_err-write_answers.ensures))

pub returns-in_err-write_ledger : goal.returns-in_err-write_ledger
returns-in_err-write_ledger g c = rw (← c.deref.ensures.value, ← c.deref-2.ensures.value)
    (stops g.W.Write.contents _ _ _ _ _ _ c.from_residual-in_err-write_ledger.ensures.1
    (WritesOrFails-then g.W.Write.contents _ _ _ (Err _) _ _ c.in_ok-write_answers.ensures c.in_err-write_ledger.ensures))

pub returns-in_err-write_flight : goal.returns-in_err-write_flight
returns-in_err-write_flight g c =
    let lines : c.if-flight.lines.now ≡ (if c.args.flight then c.args.report.now.flight.items else []) = search rules in
    rw (← c.deref.ensures.value, ← c.deref-2.ensures.value, ← lines)
    (WritesOrFails-then g.W.Write.contents _ _ _ _ _ _ (Writes-then g.W.Write.contents _ _ _ _ _ c.in_ok-write_answers.ensures c.in_ok-write_ledger.ensures)
    (passes g.W.Write.contents _ _ _ _ _ c.from_residual-in_err-write_flight.ensures.1 c.in_err-write_flight.ensures))

pub returns : goal.returns
returns g c =
    let lines : c.if-flight.lines.now ≡ (if c.args.flight then c.args.report.now.flight.items else []) = search rules in
    rw (← c.deref.ensures.value, ← c.deref-2.ensures.value, ← lines)
    (flushed g.W.Write.contents _ _ _ c.flush.result _
    (Writes-then g.W.Write.contents _ _ _ _ _ (Writes-then g.W.Write.contents _ _ _ _ _ c.in_ok-write_answers.ensures c.in_ok-write_ledger.ensures) c.in_ok-write_flight.ensures) c.flush.ensures)
