use Rattle.xh_script.proofs.Common.{drop, form_among, ◌≡◌}
use Rattle.xh_script.proofs.form.form_among.Given as goal

abbrev pub invariant-loop-form : goal.invariant-loop-form
invariant-loop-form l = form_among l.forms l.word ≡ form_among (drop l.form-index l.forms) l.word
