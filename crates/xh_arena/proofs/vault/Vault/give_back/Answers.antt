use Rattle.xh_arena.proofs.Common.{ℕ, ◌<◌, sym, ap, ◌∙◌, subst, arith, lengths_of, back_wear, back_limit, back_lengths, length_is, booked}
use Rattle.xh_arena.proofs.Shown.{lot_known, lot_of, back_shown}
use Rattle.xh_arena.proofs.Weights.{weigh-at}
use Rattle.xh_arena.proofs.vault.Vault.give_back.Goals as goal

pub give_back-requires : goal.give_back-requires
give_back-requires g c =
    let is = length_is c.self.inside.arena _ _ (lot_known _ _ _ _ (booked c.self.inside.arena) c.lot.invariant c.self.invariant.balanced c.set_length_of.ensures.fits) in
    record { known = is.0; held = subst (λ (n : ℕ). 0 < n) (sym (is.1 ∙ ap (λ l. l.len) c.lot.view_is)) c.requires.some }

pub overflow_add-tally : goal.overflow_add-tally
overflow_add-tally g c =
    let shown = back_shown (booked c.self.inside.arena) _ _ _ _ _ _ _ _ _ _ c.self.invariant.balanced c.lot.invariant c.tally.invariant c.set_length_of.ensures.fits
    c.set_length_of.ensures.changed.0 c.give_back_by.ensures.fits c.give_back_by.ensures.changed.0 in
    omega (
      arith,
      shown.tally,
      c.self.invariant.balanced.1,
      weigh-at (λ (n : ℕ). n) (lengths_of c.self.inside.arena) c.lot.inside.index c.lot.inside.len shown.lot,
      c.self.invariant.worn,
      c.self.invariant.most,
    )

pub invariant_of-self : goal.invariant_of-self
invariant_of-self g c =
    let shown = back_shown (booked c.self.inside.arena) _ _ _ _ _ _ _ _ _ _ c.self.invariant.balanced c.lot.invariant c.tally.invariant c.set_length_of.ensures.fits
    c.set_length_of.ensures.changed.0 c.give_back_by.ensures.fits c.give_back_by.ensures.changed.0 in
    let back = c.give_back.ensures.done in
    record {
      balanced = shown.kept (booked c.give_back.new.self) (back_lengths _ _ _ back) (back_wear _ _ _ back);
      worn = (let wear = back_wear _ _ _ back in let limit = back_limit _ _ _ back in let worn = c.self.invariant.worn in omega arith);
      most = (let limit = back_limit _ _ _ back in let most = c.self.invariant.most in omega arith);
    }

pub returns-clause-lot : goal.returns-clause-lot
returns-clause-lot g c = lot_of c.self.view_is c.lot.view_is c.lot.invariant c.self.invariant.balanced c.set_length_of.ensures.fits
