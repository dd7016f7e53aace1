use Rattle.xh_place.proofs.Common.{ap, ◌∙◌, [], refl, Some, Process, acts_itself, acts_of, word_of, word_holds, none_there, rules, subst, sym, IsRecord}
use Rattle.xh_place.proofs.checks.holds.Goals as goal

pub returns-clause-holds : goal.returns-clause-holds
returns-clause-holds c = word_holds c.args.seat.now c.args.r c.owner_word.result c.encode.result c.owner_word.ensures.0
    (c.encode.ensures ∙ ap (λ p. word_of (Some (Process p))) (c.process.ensures ∙ ap (λ h. h.process) c.owner_word.ensures.2.0))

pub returns-clause-same : goal.returns-clause-same
returns-clause-same c = acts_of [] [] c.args.seat.now.lots c.args.seat.now c.owner_word.new.seat c.owner_word.ensures.2 refl

pub returns-then-not-has-clause-same : goal.returns-then-not-has-clause-same
returns-then-not-has-clause-same c = acts_itself c.args.seat.now

pub returns-then-not-has-clause-holds : goal.returns-then-not-has-clause-holds
returns-then-not-has-clause-holds c = let out : IsRecord c.args.seat.now.shape c.args.r → ⊥ = search rules in none_there c.args.seat.now.lots c.requires.whole c.args.r out
