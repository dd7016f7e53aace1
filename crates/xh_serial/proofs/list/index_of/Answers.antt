use Rattle.xh_serial.proofs.Common.{ap, length, unwrap_or, ◌==◌, ◌∙◌}
use Rattle.xh_serial.proofs.Closing.{first_or_length}
use Rattle.xh_serial.proofs.list.index_of.Goals as goal

pub returns : goal.returns
returns c =
    c.unwrap_or.ensures ∙ (ap (λ o. unwrap_or o (length c.args.list.now)) c.index_in.ensures ∙ first_or_length (λ q. q == c.args.r) c.args.list.now)
