use Rattle.xh_place.proofs.Common.{◌++◌, ℕ, List, LotOf, Acts, Body, ap, ◌∙◌, subst, acts_twice, value_at, vacate_acts, vacated, without, without_other}
use Rattle.xh_place.proofs.opening.vacate_two.Goals as goal

pub vacate-requires-2-clause-held : goal.vacate-requires-2-clause-held
vacate-requires-2-clause-held c =
    let h = c.requires.held in (h.0, ap (λ z. value_at c.args.r z.lots) c.vacate.ensures.vacated.2.0.0 ∙ without_other c.args.r c.args.t c.args.seat.now.lots c.requires.own.3 ∙ h.2, h.4)

pub returns : goal.returns
returns c =
    let h = c.requires.held in let seat = c.args.seat.now in let mid = c.vacate.new.seat in let last = c.vacate-2.new.seat in let r : ℕ = c.args.r in let t : ℕ = c.args.t in
    let one = c.vacate.ensures.vacated.2.0.0 in let at = ap (λ z. value_at r z.lots) one ∙ without_other r t seat.lots c.requires.own.3 ∙ h.2 in
    record {
      free = subst (λ (z : ℕ × List (ℕ × LotOf Body)). Acts (vacated seat.process t ++ vacated z.0 r) (without r z.1) seat last) (λ i. (ap (λ z. z.process) one i, ap (λ z. z.lots) one i))
          (acts_twice (vacated seat.process t) (vacated mid.process r) (without t seat.lots) (without r mid.lots) seat mid last
          (vacate_acts seat mid seat.process t h.1 h.3 h.5 c.vacate.ensures.vacated) (vacate_acts mid last mid.process r h.0 at h.4 c.vacate-2.ensures.vacated));
    }
