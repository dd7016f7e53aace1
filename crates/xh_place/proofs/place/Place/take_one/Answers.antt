use Rattle.xh_place.proofs.Common.{refl, sym, subst, inl, ℕ, List, [], ◌∷◌, AreGot, Body, GainsAll, IsSeen, LotOf, gains_none, arith, inr, rules, ◌≡◌, ◌+◌, ◌*◌, IsRecord, stays_itself, item_of}
use Rattle.xh_place.proofs.Common.{items_of}
use Rattle.xh_place.specs.declared.got.Got.{Got}
use Rattle.xh_place.specs.declared.got.Got.TheVariants.{Here, Missing}
use Rattle.xh_place.specs.inner.Answers.{Comes}
use Rattle.xh_place.specs.Places.{PlaceSeen}
use Rattle.xh_place.specs.Seen.{bears, brings}
use Rattle.xh_place.proofs.place.Place.take_one.Goals as goal

came : (old new : PlaceSeen) (d r : ℕ) (got : Got) → Comes old new d r got → (gained : List (ℕ × LotOf Body)) × GainsAll d gained old new
    × AreGot (IsSeen old.seat new.seat) d (items_of gained) (got ∷ [])
came old new d r (Here b kind) h = (
  (b.rec, h.1) ∷ [],
  subst (λ (q : ℕ). GainsAll d ((q, h.1) ∷ []) old new) (sym h.0) h.4,
  (item_of h.1, [], refl, h.2, subst (λ (q : ℕ). IsSeen old.seat new.seat q (brings d (item_of h.1))) (sym h.0) h.5, refl),
)
came old new d r (Missing q word) h = ([], gains_none d old new h.2, (h.1, subst (λ (z : ℕ). IsSeen old.seat new.seat z (bears word)) (sym h.0) (inl h.3), refl))

pub returns-clause-got : goal.returns-clause-got
returns-clause-got c = came c.args.self.now c.accept.new.self c.args.direction c.args.r c.accept.result c.accept.ensures.got

pub returns-then-not-has-clause-got : goal.returns-then-not-has-clause-got
returns-then-not-has-clause-got c =
    let old = c.args.self.now in let out : IsRecord c.args.records.now.shape c.args.r → ⊥ = search rules in
    ([], gains_none c.args.direction old old (stays_itself old), ((λ e. absurd (omega (arith, e))), inr ((λ is. out (subst (λ s. IsRecord s c.args.r) c.requires.own.0.1 is)), refl), refl))
