use Rattle.xh_channel.proofs.Common.{LineView, ap, rules, sym, ◌∙◌, ◌≡◌}
use Rattle.xh_channel.proofs.LineMoves.{has_word}
use Rattle.xh_channel.proofs.LineSteps.{joins}
use Rattle.xh_channel.proofs.line_seat.join.Goals as goal

pub join_seat-requires : goal.join_seat-requires
join_seat-requires c =
    let l = c.low.invariant in let h = c.high.invariant in let is = c.low.view_is in let also = c.high.view_is in
    let same : c.low.inside.seat.table_id ≡ c.deref.result.now.shared.table_id = search rules in (
      same,
      ap (λ (s : LineView). s.table) also ∙ c.requires.2 ∙ ap (λ (s : LineView). s.table) (sym is) ∙ same,
      h.idle,
      has_word _ _ same l.words,
      joins _ _ _ _ (ap (λ (s : LineView). s.side) is ∙ c.requires.0) (ap (λ (s : LineView). s.side) also ∙ c.requires.1) l.owns h.owns l.home h.home,
    )
