use Rattle.xh_session.proofs.Common.{map, record_at, take, ◌≡◌}
use Rattle.xh_script.specs.Operands.{name_in}
use Rattle.xh_session.proofs.bindings.BlockNames.records_of.Given as goal

abbrev pub invariant-loop-word : goal.invariant-loop-word
invariant-loop-word l = l.found.items ≡ map (λ x. record_at l.self l.process (name_in x)) (take l.word-index l.words)
