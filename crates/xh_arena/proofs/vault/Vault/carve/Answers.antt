use Rattle.xh_arena.proofs.Common.{List, Some, sym, ap, ◌∙◌, subst, arith, carved_wear, carved_limit, carved_lengths, length_is, booked, Balanced, Part}
use Rattle.xh_arena.proofs.Shown.{lot_known, lot_of, CarveShown, carve_shown}
use Rattle.xh_arena.proofs.vault.Vault.carve.Goals.{After-take_by}
use Rattle.xh_arena.proofs.vault.Vault.carve.Goals as goal

pub carve-requires : goal.carve-requires
carve-requires g c =
    let known = lot_known _ _ _ _ (booked c.self.inside.arena) c.lot.invariant c.self.invariant.balanced c.look_at.ensures.fits in
    let is = length_is c.self.inside.arena _ _ (known ∙ ap Some (ap (λ l. l.len) c.lot.view_is ∙ c.requires.empty)) in
    record { known = is.0; empty = is.1; some = c.requires.some; multiple = c.requires.multiple }

-- what the changes of shares show of the books
books : (g : _) (c : After-take_by g) → CarveShown (booked c.self.inside.arena) c.take_by.new.self.parts c.lot.inside.index c.args.n c.tally.inside.taken c.tally.inside.back
books g c =
    let same = c.look_at.ensures.same in
    let balanced = subst (λ (ps : List Part). Balanced (booked c.self.inside.arena) ps) (sym (ap (λ s. s.parts) same.0)) c.self.invariant.balanced in
    carve_shown _ _ _ _ _ _ _ _ _ _ _ _ balanced (same.2 ∙ c.lot.invariant) c.tally.invariant (ap (λ l. l.len) c.lot.view_is ∙ c.requires.empty)
    c.set_length_of.ensures.fits c.set_length_of.ensures.changed.0 c.take_by.ensures.fits c.take_by.ensures.changed.0

pub overflow_add-tally : goal.overflow_add-tally
overflow_add-tally g c =
    let shown = books g (goal.at.overflow_add-tally g c).After-take_by in
    let worn = carved_wear _ _ _ _ _ c.in-Ok.ensures.done in
    let same = carved_limit _ _ _ _ _ c.in-Ok.ensures.done in
    omega (arith, shown.tally, c.in-Ok.ensures.done.within_limit, c.self.invariant.most)

pub invariant_of-self-2 : goal.invariant_of-self-2
invariant_of-self-2 g c =
    let shown = books g (goal.at.invariant_of-self-2 g c).After-take_by in
    let carved = c.in-Ok.ensures.done in
    record {
      balanced = shown.kept (booked c.carve.new.self) (carved_lengths _ _ _ _ _ carved) (carved_wear _ _ _ _ _ carved);
      worn = carved.within_limit;
      most = (let same = carved_limit _ _ _ _ _ carved in let most = c.self.invariant.most in omega arith);
    }

pub returns-in-Err-clause-lot : goal.returns-in-Err-clause-lot
returns-in-Err-clause-lot g c = lot_of c.self.view_is c.lot.view_is c.lot.invariant c.self.invariant.balanced c.look_at.ensures.fits
