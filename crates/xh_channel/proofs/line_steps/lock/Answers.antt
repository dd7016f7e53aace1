use Rattle.xh_channel.proofs.Common.{ap, arith, ◌∙◌, ◌≡◌}
use Rattle.xh_channel.proofs.LineSteps.{locks}
use Rattle.xh_channel.proofs.line_steps.lock.Goals as goal

pub swap-requires : goal.swap-requires
swap-requires g c =
    let i = c.loop.invariant in let found = c.try_lock-2.ensures in
    let me : c.loop.token.me ≡ c.args.token.now.me = i.2 ∙ found.missed c.if-try_lock-2.false ∙ c.try_lock.ensures.missed c.if-try_lock.false in
    (i.0 ∙ found.same.0 ∙ c.try_lock.ensures.same.0 ∙ c.requires.own.0, c.requires.own.1, locks _ _ _ (λ _. 2) 2 0 (λ _ e. omega arith) (ap (λ m. m.0.owns) me ∙ c.requires.owns))
