use Rattle.std.proofs.Common.{length, refl, ◌∙◌}
use Rattle.xh_records.proofs.Opening.{opens}
use Rattle.xh_records.proofs.making.table_of.Goals as goal

pub new-requires : goal.new-requires
new-requires g c =
    opens g.B.Fits.is_fit _ (length c.args.lots.items) _ c.args.lots.items _ c.requires.limits.0 (c.as_slice.ensures.value ∙ c.in_ok-words.ensures.0) c.in_ok-words.ensures.1 refl
    c.requires.empty c.requires.limits.1
