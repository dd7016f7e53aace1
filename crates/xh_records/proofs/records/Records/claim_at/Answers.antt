use Rattle.xh_records.proofs.Common.{Claim, IsEmpty}
use Rattle.std.proofs.lemmas.Result.{on_ok_weaker, IfErr-weaker}
use Rattle.xh_records.proofs.Looks.{gains_on, seen_on}
use Rattle.xh_records.proofs.records.Records.claim_at.Goals as goal

pub returns-clause-claimed : goal.returns-clause-claimed
returns-clause-claimed g c =
    on_ok_weaker c.take.result (λ gained. gains_on c.args.seat.now c.word_at-word.new.seat c.word_at-word.ensures.2 (λ p. Claim p c.args.number) (IsEmpty g.B.Fits.is_fit) c.take.new.seat gained)
    c.take.ensures.taken

pub returns-clause-missed : goal.returns-clause-missed
returns-clause-missed g c =
    let on = seen_on c.args.seat.now c.word_at-word.new.seat c.word_at-word.ensures.2 c.args.number in
    IfErr-weaker c.take.result _ _ (λ word m. (m.0, on word c.take.new.seat m.1)) c.take.ensures.missed
