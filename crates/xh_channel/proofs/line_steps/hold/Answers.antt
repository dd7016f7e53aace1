use Rattle.xh_channel.proofs.Common.{LiesFor, Lined, Option, holding, subst, ◌∙◌, ◌∷◌}
use Rattle.xh_channel.proofs.LineMoves.{has_line}
use Rattle.xh_channel.proofs.line_steps.hold.Goals as goal

pub returns-clause-held : goal.returns-clause-held
returns-clause-held g c =
    let l = c.lock.ensures.held in let b = c.requires.begun in let v = c.args.token.now.me.0 in
    let is = has_line v.side l.0 v.own l.1 l.3 b.1 in (
      is.0,
      l.1,
      l.2 ∙ (λ i. (holding v l.1, (0, is.1 i) ∷ b.0 i)),
      record { few = b.2; lies = subst (λ (x : Option Lined). LiesFor v.side x v.own l.1) is.1 l.3; told = l.4 },
    )
