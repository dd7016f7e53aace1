use Rattle.xh_channel.proofs.Common.{AgreesWith, LineView, on_line, refl, rules, subst, sym, ◌≡◌}
use Rattle.xh_channel.proofs.LineMoves.{has_word}
use Rattle.xh_channel.proofs.LineSteps.{compares}
use Rattle.xh_channel.proofs.line_seat.compare.Goals as goal

pub load-requires : goal.load-requires
load-requires c =
    let w = c.join-low.ensures.whole in
    let same : c.join-low.result.2.table_id ≡ c.deref.result.now.shared.table_id = search rules in
    (same, has_word _ _ same w.words, compares _ _ _ w.owns w.both w.home)

pub returns-clause-agree : goal.returns-clause-agree
returns-clause-agree c e f =
    let sides = c.join-low.ensures.sides in
    let seen = c.load.ensures.2 in
    subst (λ (x : LineView × LineView). AgreesWith (on_line e x.0) (on_line f x.1) × AgreesWith (on_line f x.1) (on_line e x.0)) (λ i. (sym sides.0 i, sym sides.1 i)) (
      record { told_put = seen.1.0; told_taken = seen.1.1; told_shut = seen.1.2; taken = seen.4; sent = λ _. refl },
      record { told_put = seen.2.0; told_taken = seen.2.1; told_shut = seen.2.2; taken = seen.3; sent = λ _. refl },
    )
