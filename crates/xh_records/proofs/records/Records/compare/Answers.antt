use Rattle.std.proofs.Common.{sym, ap, ◌∙◌}
use Rattle.xh_records.proofs.Cuts.{notes}
use Rattle.xh_records.proofs.Seating.{is_alone}
use Rattle.xh_records.proofs.records.Records.compare.Goals as goal

pub split_seat-told-requires : goal.split_seat-told-requires
split_seat-told-requires g c = (
  ap (λ h. h.table) c.second.view_is ∙ c.requires.own.1.0 ∙ sym (ap (λ r. r.table) c.self.view_is),
  c.self.invariant.some,
  notes g.B.Fits.is_fit c.self.inside.table.shared.key _ _ _ (is_alone _ _ _ _ _ c.second.invariant),
)
