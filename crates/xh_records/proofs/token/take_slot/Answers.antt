use Rattle.xh_records.proofs.Common.{ℕ, ◌<◌, ◌++◌, [], ◌∷◌, get_or, ap, sym, subst, ◌∙◌, Some, none, turned, holder_of, Arrives, IsLotAt, Owns, front_in, gained}
use Rattle.xh_records.proofs.Keeps.{takes_lot}
use Rattle.xh_records.proofs.token.take_slot.Goals as goal

pub compare_exchange-found-requires : goal.compare_exchange-found-requires
compare_exchange-found-requires g c =
    let there = subst (λ k. (k < c.args.board.now.table_id.words) × (k < c.args.board.now.table_id.slots)) (sym c.from-at.ensures) c.requires.inside in (
      c.requires.own,
      there.0,
      takes_lot g.B.Fits.is_fit c.args.board.now.key _ _ _ _ _ _ c.args.process (holder_of c.args.from) none c.encode-wanted.ensures c.encode-owned.ensures c.requires.away there.1 c.requires.process,
    )

pub returns-clause-taken : goal.returns-clause-taken
returns-clause-taken g c =
    let t = c.compare_exchange-found.ensures.2.0 c.if-found-wanted.false in
    let u = t.3 (holder_of c.args.from) c.encode-wanted.ensures in
    let me = c.args.token.now.me in
    let one = ap (λ l. get_or l 0 0) c.requires.process.0 in (
      t.0,
      t.1,
      c.turn.ensures.2 ∙ ap (λ m. (m.0, turned m.1)) u.0 ∙ (λ i. (gained me.0 (c.from-at.ensures i) (one i) (holder_of c.args.from) t.0 t.1, me.1 ++ (c.from-at.ensures i, Some t.0) ∷ [])),
      t.2,
      subst (λ k. IsLotAt me.0.shape k t.0) c.from-at.ensures t.4,
      u.1,
      subst (λ k. (p : ℕ) → Owns me.0 k p → ⊥) c.from-at.ensures t.5,
      subst (λ m. Arrives (front_in m.0)) (sym c.turn.ensures.2) t.6,
    )
