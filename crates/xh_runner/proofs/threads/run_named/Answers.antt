use Rattle.std.proofs.Common.{◌≡◌, ◌∙◌, All, IfOk, false, subst, sym}
use Rattle.xh_calls.specs.Parts.{AreMadeBy}
use Rattle.xh_core.specs.declared.ledger.ArenaLine.{ArenaLine}
use Rattle.xh_model.specs.declared.limits.TheConstants.{MAX_WORKERS, USUAL_GENERATIONS}
use Rattle.xh_script.specs.Scripts.{listing_of}
use Rattle.xh_runner.specs.Runs.{AnswersScript, HasPlayed}
use Rattle.xh_runner.proofs.threads.run_named.Goals as goal

pub returns-clause-run : goal.returns-clause-run
returns-clause-run g c =
    let parts = g.N.Names.parts in
    let leads = g.N.Names.leads in
    let script = listing_of c.args.script.now in
    let (done, is, same, closed) = c.in_ok-answers.ensures.closed in record {
      made = subst (AreMadeBy c.args.config MAX_WORKERS USUAL_GENERATIONS) c.requires.names c.requires.made;
      once = subst (λ p. p.comes_back ≡ false) c.requires.names c.requires.once;
      accounts = done.1.items;
      looks = done.2.items;
      played = subst (λ x. HasPlayed parts leads script x.0.items done.1.items done.2.items) (sym same)
          (subst (λ r. IfOk r (λ d. HasPlayed parts leads script d.0.0.items d.1.items d.2.items)) is c.run_script-played.ensures.played);
      closed = closed;
    }

pub returns-clause-answers : goal.returns-clause-answers
returns-clause-answers g c =
    let script = listing_of c.args.script.now in
    let (done, is, same, closed) = c.in_ok-answers.ensures.closed in
    subst (λ x. AnswersScript script x.0.items x.1.items) (sym same) (subst (λ r. IfOk r (λ d. AnswersScript script d.0.0.items d.0.1.items)) is c.run_script-played.ensures.answers)

pub returns-clause-ledger : goal.returns-clause-ledger
returns-clause-ledger g c =
    let made = subst (AreMadeBy c.args.config MAX_WORKERS USUAL_GENERATIONS) c.requires.names c.requires.made in
    let books = c.in_ok-answers.ensures in record {
      count = books.arenas.0 ∙ made.5;
      sizes = subst (λ n. All (λ (a : ArenaLine). a.size ≡ n) c.in_ok-answers.books.ledger.arenas.items) made.1 books.arenas.1;
      places = books.places;
      balanced = books.balanced;
      in_flight = books.lines;
    }
