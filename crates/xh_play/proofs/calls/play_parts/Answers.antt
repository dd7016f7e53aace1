use Rattle.std.proofs.Common.{◌≡◌, ◌<◌, ◌∙◌, All, IfOk, ap, length, subst, sym, vec_len}
use Rattle.xh_core.specs.declared.ledger.PlaceLine.{PlaceLine}
use Rattle.xh_model.specs.declared.limits.TheConstants.{PLACES}
use Rattle.xh_play.proofs.calls.play_parts.Goals as goal

pub returns : goal.returns
returns g c =
    let (done, is, same, closed) = c.in_ok-answers.ensures.closed in
    let count = subst (λ r. IfOk r (λ d. (vec_len d.1 ≡ 1) × (length d.0.1.items ≡ PLACES))) is c.play_by_worker-played.ensures.count in
    subst (λ n. All (λ (line : PlaceLine). line.place < n) c.in_ok-answers.books.ledger.places.items) (sym (ap (λ x. length x.1.items) same ∙ count.1)) c.in_ok-answers.ensures.places
