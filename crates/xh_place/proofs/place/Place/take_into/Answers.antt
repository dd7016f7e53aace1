use Rattle.xh_place.proofs.Common.{◌≡◌, ◌∷◌, [], ap, subst, runs, IfErr, None, Stays, first_refusal, found, start}
use Rattle.std.specs.Prelude.{is_none}
use Rattle.xh_core.specs.Headers.{has_end}
use Rattle.xh_core.specs.declared.refused.Refused.TheVariants.{Empty, NotOwned}
use Rattle.xh_place.specs.Messages.{TakesAt}
use Rattle.xh_place.proofs.Drained.{tried, tried_empty}
use Rattle.xh_place.proofs.place.Place.take_into.Goals as goal

pub returns-in-Ok-clause-taken : goal.returns-in-Ok-clause-taken
returns-in-Ok-clause-taken g c =
    let q = c.in-Ok.ensures.tested in let seat = c.self.inside.seat in let state = c.self.inside.state in let e = c.args.e in
    let fine : first_refusal (start state) ≡ None = ap (λ s. first_refusal (start s)) (runs state ((is_none (found seat e), NotOwned) ∷ []) q.0) in
    subst (λ z. TakesAt z.state e z c.take_message.new.self c.take_message.new.answer) c.self.view_is
    (tried e seat c.test_block.new.seat c.self.inside.list.items state c.take_message.new.self c.in-Ok.ensures.same c.take_message.new.answer state q.1.0 fine q.1.1 c.take_message.ensures.taken)

pub returns-in-Ok-clause-empty : goal.returns-in-Ok-clause-empty
returns-in-Ok-clause-empty g c =
    let mid = c.test_block.new.seat in let new = c.take_message.new.self in let answer = c.take_message.new.answer in
    subst (λ z. IfErr answer (λ u. u ≡ Empty → Stays z new)) c.self.view_is
    (tried_empty c.args.e c.self.inside.seat mid c.self.inside.list.items c.self.inside.state new c.in-Ok.ensures.same answer (has_end (found mid c.args.e)) c.take_message.ensures.taken)
