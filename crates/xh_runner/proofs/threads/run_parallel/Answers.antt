use Rattle.std.proofs.Common.{Bool, refl}
use Rattle.xh_model.specs.declared.config.Config.{Config}
use Rattle.xh_script.specs.declared.script.Script.{Script}
use Rattle.xh_script.specs.Scripts.{listing_of}
use Rattle.xh_session.proofs.Ends.{wrote_all, wrote_part}
use Rattle.xh_session.specs.declared.report.Report.{Report}
use Rattle.xh_session.specs.Output.{told_text}
use Rattle.xh_runner.specs.Runs.{AnswersScript, HasRun, IsLedgerOf, IsReportTold}
use Rattle.xh_runner.proofs.threads.run_parallel.Goals as goal

told : (flight : Bool) (config : Config) (s : Script) (r : Report) → HasRun config (listing_of s) r → AnswersScript (listing_of s) r.answers.items r.names.items
    → IsLedgerOf config r.ledger r.flight.items → IsReportTold flight config (listing_of s) (told_text flight r)
told flight config s r run answers ledger = record { report = r; run = run; answers = answers; ledger = ledger; text = refl }

pub returns-clause-ok : goal.returns-clause-ok
returns-clause-ok g c =
    let run = c.args.run in let r = c.in_ok-report.ensures in
    wrote_all g.R.Read.remaining g.W.Write.contents (IsReportTold run.flight run.config) c.args.reader.now c.read_input.new.reader c.args.writer.now c.write_report.new.writer
    c.write_report.result c.in_ok-input.input.text.items (listing_of c.in_ok-input.input.script) (told_text run.flight c.in_ok-report.report) c.in_ok-input.ensures.ok
    (told run.flight run.config c.in_ok-input.input.script c.in_ok-report.report r.run r.answers r.ledger) c.write_report.ensures

pub returns-clause-err : goal.returns-clause-err
returns-clause-err g c =
    let run = c.args.run in let r = c.in_ok-report.ensures in
    wrote_part g.R.Read.remaining g.W.Write.contents (IsReportTold run.flight run.config) run.config c.args.reader.now c.read_input.new.reader c.args.writer.now c.write_report.new.writer
    c.write_report.result c.in_ok-input.input.text.items (listing_of c.in_ok-input.input.script) (told_text run.flight c.in_ok-report.report) c.in_ok-input.ensures.ok
    (told run.flight run.config c.in_ok-input.input.script c.in_ok-report.report r.run r.answers r.ledger) c.write_report.ensures

pub returns-clause-config : goal.returns-clause-config
returns-clause-config g c = λ bad. absurd (bad c.in_ok-input.ensures.within)
