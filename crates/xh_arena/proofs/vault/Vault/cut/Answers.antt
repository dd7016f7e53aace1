use Rattle.xh_arena.proofs.Common.{Some, ℕ, ◌-◌, sym, ap, ◌∙◌, subst, arith, slice_set, IsGoodCut, lengths_of, cut_wear, cut_limit, cut_lengths, length_is, booked}
use Rattle.xh_arena.proofs.Shown.{CutShown, lot_seen, cut_shown}
use Rattle.xh_arena.proofs.vault.Vault.cut.Goals.{After-set_length_of-2}
use Rattle.xh_arena.proofs.vault.Vault.cut.Goals as goal

-- what the two changes of shares show of the books
books : (g : _) (c : After-set_length_of-2 g) → CutShown (booked c.self.inside.arena) c.set_length_of-2.new.self.parts c.head.inside.index c.head.inside.len c.tail.inside.index c.args.k
books g c =
    cut_shown _ _ _ _ _ _ _ _ _ _ c.args.k c.self.invariant.balanced c.head.invariant c.tail.invariant
    (ap (λ l. l.len) c.tail.view_is ∙ c.requires.empty) (ap (λ l. l.len) c.head.view_is) c.requires.good
    c.set_length_of.ensures.fits c.set_length_of.ensures.changed.0 c.set_length_of-2.ensures.fits c.set_length_of-2.ensures.changed.0

pub cut-requires : goal.cut-requires
cut-requires g c =
    let shown = books g (goal.at.cut-requires g c).After-set_length_of-2 in
    let tail = length_is c.self.inside.arena _ _ shown.tail in
    record { known = (length_is c.self.inside.arena _ _ shown.head).0; tail_known = tail.0; other = shown.other; empty = tail.1 }

pub unreachable-requires : goal.unreachable-requires
unreachable-requires g c =
    let shown = books g (goal.at.unreachable-requires g c).After-set_length_of-2 in
    let good = c.in_default.ensures.exact.1 (subst (λ (n : ℕ). IsGoodCut c.args.k n) (sym ((length_is c.self.inside.arena _ _ shown.head).1 ∙ ap (λ l. l.len) c.head.view_is)) c.requires.good) in
    absurd (cc)

pub invariant_of-self : goal.invariant_of-self
invariant_of-self g c =
    let shown = books g (goal.at.invariant_of-self g c).After-set_length_of-2 in
    let cut = c.in-Ok.ensures.done in
    let lengths = cut_lengths _ _ _ _ _ cut ∙ ap (λ m. slice_set (slice_set (lengths_of c.self.inside.arena) c.head.inside.index c.args.k) c.tail.inside.index (m - c.args.k))
    (length_is c.self.inside.arena _ _ shown.head).1 in
    record {
      balanced = shown.kept (booked c.cut.new.self) lengths (cut_wear _ _ _ _ _ cut);
      worn = (let wear = cut_wear _ _ _ _ _ cut in let limit = cut_limit _ _ _ _ _ cut in let worn = c.self.invariant.worn in omega arith);
      most = (let limit = cut_limit _ _ _ _ _ cut in let most = c.self.invariant.most in omega arith);
    }

pub returns-clause-lots : goal.returns-clause-lots
returns-clause-lots g c =
    let shown = books g (goal.at.returns-clause-lots g c).After-set_length_of-2 in
    (lot_seen c.self.view_is c.head.view_is shown.head, lot_seen c.self.view_is c.tail.view_is (shown.tail ∙ ap Some (sym (ap (λ l. l.len) c.tail.view_is ∙ c.requires.empty))))
