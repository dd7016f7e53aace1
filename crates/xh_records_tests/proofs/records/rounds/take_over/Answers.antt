use Rattle.std.proofs.Common.{◌≡◌, ◌∷◌, ◌++◌, [], ◌∙◌, ap, refl}
use Rattle.xh_arena.specs.Views.{LotOf}
use Rattle.xh_model.specs.Keyed.{without}
use Rattle.xh_records.specs.Seats.{Held, IsSeatOf, with_lots}
use Rattle.xh_records_tests.specs.declared.records.Any.{Any}
use Rattle.xh_records_tests.proofs.OneLot.{gains_one, has_one, changes_one, loses_one, seen, still_of}
use Rattle.xh_records_tests.proofs.records.rounds.take_over.Given.{Over}
use Rattle.xh_records_tests.proofs.records.rounds.take_over.Goals.{After-give_back_at}
use Rattle.xh_records_tests.proofs.records.rounds.take_over.Goals as goal

-- the seat once the record is accepted and its bytes are given back
module _ (g : Over) (c : After-give_back_at g) where
  abbrev accepted : Held Any
  accepted = seen c.assert_word.new.seat.front c.miss.new.seat

  abbrev lot : LotOf Any
  lot = record c.in-Ok.ensures.accepted.0 { len = 0 }

  emptied : c.give_back_at.new.seat ≡ with_lots accepted ((0, lot) ∷ [])
  emptied =
      let l = c.in-Ok.ensures.accepted.0 in
      let bare : accepted.lots ≡ [] = ap (λ (h : Held Any). h.lots) c.miss.ensures.0 ∙ c.requires.bare in
      let one = gains_one accepted _ accepted 0 l l bare (c.assert_word.ensures.0 ∙ ap (seen c.assert_word.new.seat.front) c.in-Ok.ensures.accepted.1.0) in
      changes_one accepted _ _ 0 l lot one (c.give_back_at.ensures.lot l (has_one accepted _ accepted 0 l l one))

  own : IsSeatOf c.args.records.now accepted
  own = still_of _ (seen c.miss.new.seat.front c.args.seat.now) c.miss.new.seat c.args.seat.now.lots c.requires.own.0 c.miss.ensures.0

  vacated : (y : Held Any) → y ≡ record c.give_back_at.new.seat { lots = without 0 c.give_back_at.new.seat.lots; front = y.front } → y ≡ with_lots (seen y.front accepted) []
  vacated y lost = loses_one accepted _ y 0 lot lot emptied lost

pub vacate-requires-clause-own : goal.vacate-requires-clause-own
vacate-requires-clause-own g c =
    let s = (goal.at.vacate-requires-clause-own g c).After-give_back_at in still_of _ (accepted g s) _ _ (own g s) (emptied g s)

pub vacate-requires-clause-held : goal.vacate-requires-clause-held
vacate-requires-clause-held g c =
    let s = (goal.at.vacate-requires-clause-held g c).After-give_back_at in
    (lot g s, has_one (accepted g s) _ (accepted g s) 0 (lot g s) (lot g s) (emptied g s), (refl, refl))

pub assert_word-requires-2-clause-own : goal.assert_word-requires-2-clause-own
assert_word-requires-2-clause-own g c =
    let s = (goal.at.assert_word-requires-2-clause-own g c).After-give_back_at in
    still_of _ (seen c.vacate.new.seat.front (accepted g s)) _ _ (own g s) (vacated g s _ c.vacate.ensures.vacated.2.0.0)

pub returns : goal.returns
returns g c =
    let all = c.assert_word-2.ensures.0 ∙ ap (seen c.assert_word-2.new.seat.front) (vacated g (goal.at.returns g c).After-give_back_at _ c.vacate.ensures.vacated.2.0.0) in let miss = c.miss.ensures.0 in
    record { seat = (ap (λ h. h.table) all ∙ ap (λ h. h.table) miss, ap (λ h. h.shape) all ∙ ap (λ h. h.shape) miss, ap (λ h. h.process) all ∙ ap (λ h. h.process) miss, ap (λ h. h.lots) all) }
