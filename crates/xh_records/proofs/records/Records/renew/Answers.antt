use Rattle.xh_records.proofs.Common.{nat_tests, arith, ◌≡◌, ◌+◌, ◌<◌, sym, ap, ◌∙◌, subst, [], GENERATIONS, generation_of, keys, owned_by}
use Rattle.xh_records.proofs.Ages.{ages}
use Rattle.xh_records.proofs.Seating.{seat_is, grows_old}
use Rattle.xh_records.proofs.Numbered.{none_numbered}
use Rattle.xh_records.proofs.records.Records.renew.Goals as goal

pub load-requires : goal.load-requires
load-requires g c =
    let s = c.seat.invariant in let table = c.self.invariant in
    let bare : c.seat.inside.token.me.1 ≡ [] = none_numbered c.seat.inside.token.me.0.shape s.small c.seat.inside.token.me.1 s.lots (ap (λ h. h.lots) c.seat.view_is ∙ c.requires.empty) in
    let process : c.seat.inside.process ≡ c.args.seat.now.process = ap (λ h. h.process) c.seat.view_is in
    let generation : generation_of c.args.seat.now.process + 1 < GENERATIONS = c.requires.generation in (
      ap (λ h. h.table) c.seat.view_is ∙ c.requires.own.0 ∙ sym (ap (λ r. r.table) c.self.view_is),
      table.some,
      ages g.B.Fits.is_fit c.self.inside.table.shared.key _ _ _ c.seat.inside.process (subst (λ n. 0 < n) (table.words ∙ sym table.slots) table.some) s.processes
          (s.records ∙ ap (owned_by c.seat.inside.process) (s.ordered ∙ ap keys bare)) (omega arith),
    )

pub invariant_of-seat : goal.invariant_of-seat
invariant_of-seat g c = grind (arith, nat_tests, none_numbered, seat_is, grows_old)
