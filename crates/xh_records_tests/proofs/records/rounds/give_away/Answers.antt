use Rattle.xh_arena.specs.Views.{LotOf}
use Rattle.xh_records.specs.Seats.{Held, with_lots}
use Rattle.xh_records_tests.specs.declared.records.Any.{Any}
use Rattle.std.proofs.Common.{arith, ◌≡◌, ◌∷◌, ◌++◌, [], ◌∙◌, ap, refl}
use Rattle.xh_records_tests.proofs.OneLot.{gains_one, has_one, changes_one, loses_one, seen, still_of}
use Rattle.xh_records_tests.proofs.records.rounds.give_away.Given.{Over}
use Rattle.xh_records_tests.proofs.records.rounds.give_away.Goals.{In-Some}
use Rattle.xh_records_tests.proofs.records.rounds.give_away.Goals as goal

-- the seat once the record is claimed and carved
module _ (g : Over) (c : In-Some g) where
  abbrev claimed : Held Any
  claimed = seen c.assert_word.new.seat.front c.args.seat.now

  abbrev lot : LotOf Any
  lot = record c.in-Ok.ensures.claimed.0 { len = 32 }

  carved : c.carve_at.new.seat ≡ with_lots claimed ((c.in-Ok.number, lot) ∷ [])
  carved =
      let l = c.in-Ok.ensures.claimed.0 in
      let one = gains_one claimed _ claimed c.in-Ok.number l l c.requires.bare (c.assert_word.ensures.0 ∙ ap (seen c.assert_word.new.seat.front) c.in-Ok.ensures.claimed.1.0) in
      changes_one claimed _ _ c.in-Ok.number l lot one (c.in-Some.ensures.lot l (has_one claimed _ claimed c.in-Ok.number l l one))

pub pass-requires-clause-own : goal.pass-requires-clause-own
pass-requires-clause-own g c =
    let s = (goal.at.pass-requires-clause-own g c).In-Some in still_of _ (claimed g s) _ _ c.requires.own (carved g s)

pub pass-requires-clause-held : goal.pass-requires-clause-held
pass-requires-clause-held g c =
    let s = (goal.at.pass-requires-clause-held g c).In-Some in
    (lot g s, has_one (claimed g s) _ (claimed g s) c.in-Ok.number (lot g s) (lot g s) (carved g s), (omega arith, refl))

pub returns-clause-seat : goal.returns-clause-seat
returns-clause-seat g c =
    let s = (goal.at.returns-clause-seat g c).In-Some in
    let none = loses_one (claimed g s) c.carve_at.new.seat c.pass.new.seat c.in-Ok.number (lot g s) (lot g s) (carved g s) c.pass.ensures.passed.2.0.0 in
    (ap (λ h. h.table) none, ap (λ h. h.shape) none, ap (λ h. h.process) none, ap (λ h. h.lots) none)
