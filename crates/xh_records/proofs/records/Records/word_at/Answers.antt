use Rattle.xh_records.proofs.Common.{◌<◌, ◌%◌, sym, ap, ◌∙◌, subst, index_of}
use Rattle.xh_records.proofs.Keeps.{looks}
use Rattle.xh_records.proofs.Numbered.{held_seen}
use Rattle.xh_records.proofs.Seating.{is_alone}
use Rattle.xh_records.proofs.records.Records.word_at.Goals as goal

pub load-requires : goal.load-requires
load-requires g c =
    let inside = subst (λ t. (c.args.slot < t.words) × (c.args.slot < t.slots)) (sym (ap (λ r. r.table) c.self.view_is)) (c.requires.at.1, c.requires.at.2) in (
      ap (λ h. h.table) c.seat.view_is ∙ c.requires.own.0 ∙ sym (ap (λ r. r.table) c.self.view_is),
      inside.0,
      looks g.B.Fits.is_fit c.self.inside.table.shared.key _ _ _ _ c.seat.inside.process inside.1 (is_alone _ _ _ _ _ c.seat.invariant),
    )

pub returns : goal.returns
returns g c =
    let e = c.load.ensures in
    held_seen c.args.seat.now _ _ _ c.seat.inside.token.me c.seat.view_is _ _ _ c.seat.invariant _ _ _ c.args.slot c.args.number c.load.result e.0 e.1
    (c.requires.at.0 ∙ ap (λ s. index_of s.records c.args.number) (sym c.requires.own.1)) (subst (λ s. c.args.number % 256 < s.records) (sym c.requires.own.1) c.requires.exists.1)
    e.2
