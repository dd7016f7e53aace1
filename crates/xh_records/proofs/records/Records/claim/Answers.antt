use Rattle.xh_records.proofs.Common.{Claim, IsEmpty, ◌<◌, length, subst, sym}
use Rattle.std.proofs.lemmas.Result.{on_err_weaker, IfErr-weaker, IfOk-weaker}
use Rattle.xh_records.proofs.Looks.{looks_on, gains_on, taken_on}
use Rattle.xh_records.proofs.records.Records.claim.Goals as goal

pub loop-index-preserved : goal.loop-index-preserved
loop-index-preserved g c = looks_on c.args.seat.now c.loop-index.seat c.loop-index.invariant c.claim_at.new.seat c.in-Err.ensures.missed.1.2

pub returns-in-Ok-clause-claimed : goal.returns-in-Ok-clause-claimed
returns-in-Ok-clause-claimed g c = gains_on c.args.seat.now c.loop-index.seat c.loop-index.invariant (λ p. Claim p c.number_at-r.result)
    (IsEmpty g.B.Fits.is_fit) c.claim_at.new.seat c.in-Ok.ensures.claimed

pub returns-clause-claimed : goal.returns-clause-claimed
returns-clause-claimed g c = IfOk-weaker c.claim_seen.result _ _
    (λ r. gains_on c.args.seat.now c.loop-index.seat c.loop-index.invariant (λ p. Claim p r) (IsEmpty g.B.Fits.is_fit) c.claim_seen.new.seat) c.claim_seen.ensures.claimed

pub returns-clause-seen : goal.returns-clause-seen
returns-clause-seen g c = IfErr-weaker c.claim_seen.result _ _
    (λ s. taken_on c.args.seat.now c.loop-index.seat c.loop-index.invariant c.args.arena s.words.items c.claim_seen.new.seat) c.claim_seen.ensures.seen

pub returns-clause-missed : goal.returns-clause-missed
returns-clause-missed g c = on_err_weaker c.claim_seen.result (looks_on c.args.seat.now c.loop-index.seat c.loop-index.invariant c.claim_seen.new.seat) c.claim_seen.ensures.missed

pub slot_of-first-requires : goal.slot_of-first-requires
slot_of-first-requires g c =
    let at = c.number_at.ensures in
    let own = c.requires.arena in
    let small : 0 < c.args.self.now.shape.records = subst (λ r. 0 < r.shape.records) c.self.view_is c.self.invariant.small.0 in
    (subst (λ k. k < length c.args.self.now.shape.names) (sym at.0) own, subst (λ k. k < c.args.self.now.shape.records) (sym at.1) small)
