use Rattle.xh_place.proofs.Common.{becomes, [], ap, arith, Distinct, ◌∙◌, ◌≡◌, ◌+◌, ◌-◌, ◌/◌, ℕ, refl, sym, subst, Becomes, HasGivenBack, IsBlock, enough, lens, gave, gave_some, less, loses}
use Rattle.xh_place.proofs.Common.{now_as, now_is, vacated, value_at, without}
use Rattle.xh_place.proofs.place.Place.give_up.Goals as goal

pub remove-requires : goal.remove-requires
remove-requires g c = c.self.invariant.distinct

pub give_up-len-requires-clause-held : goal.give_up-len-requires-clause-held
give_up-len-requires-clause-held g c = let at = ap (λ p. value_at c.args.r p.seat.lots) c.self.view_is
    ∙ c.requires.listed.1 in (c.requires.listed.0, at, c.self.invariant.whole c.args.r c.requires.listed.0 at)

pub overflow_sub-self : goal.overflow_sub-self
overflow_sub-self g c =
    let at = ap (λ p. value_at c.args.r p.seat.lots) c.self.view_is ∙ c.requires.listed.1 in
    omega (arith, c.from.ensures, (c.give_up-len.ensures.back c.requires.listed.0 at).2, enough c.self.invariant c.args.r at)

pub invariant_of-self : goal.invariant_of-self
invariant_of-self g c =
    let at = ap (λ p. value_at c.args.r p.seat.lots) c.self.view_is ∙ c.requires.listed.1 in
    now_as (now_is c.self.inside.seat c.give_up-len.new.seat c.give_up-len.ensures.seat.0 (loses c.self.invariant c.args.r at)) c.remove.ensures.items c.remove.ensures.room
    (ap (λ n. c.self.inside.total - n) (c.from.ensures ∙ (c.give_up-len.ensures.back c.requires.listed.0 at).2))

pub returns-clause-list : goal.returns-clause-list
returns-clause-list g c = subst (λ p. Becomes (without c.args.r p.seat.lots) (less c.args.r p.list) (vacated p.seat.process c.args.r) p
    (record { seat = c.give_up-len.new.seat; list = c.remove.new.list.items; state = c.self.inside.state })) c.self.view_is
    (becomes c.self.inside.seat c.give_up-len.new.seat _ _ c.give_up-len.ensures.seat c.remove.ensures.items refl)

pub returns-clause-block : goal.returns-clause-block
returns-clause-block g c = λ l now. let at = ap (λ p. value_at c.args.r p.seat.lots) c.self.view_is ∙ now in let t = c.give_up-len.ensures.back l at in
    (subst (λ p. IsBlock p.seat.shape c.args.r l) c.self.view_is (c.self.invariant.whole c.args.r l at), t.2, t.3)

pub returns-clause-back : goal.returns-clause-back
returns-clause-back g c =
    let n : ℕ = c.give_up-len.result in let ts = g.V.Vaults.tallies c.args.desk.now.vaults in let at = ap (λ p. value_at c.args.r p.seat.lots) c.self.view_is ∙ c.requires.listed.1 in
    let t = c.give_up-len.ensures.back c.requires.listed.0 at in
    let is : g.V.Vaults.tallies c.give_up-len.new.desk.vaults ≡ gave (c.args.r / 256) n ts = t.0 ∙ ap (λ k. gave (c.args.r / 256) k ts) (sym t.2) in
    (is, subst (λ l. HasGivenBack n ts l) (sym is) (gave_some (c.args.r / 256) n ts t.1))

pub returns-clause-once : goal.returns-clause-once
returns-clause-once g c = subst (λ p. Distinct p.list) c.self.view_is c.self.invariant.distinct
