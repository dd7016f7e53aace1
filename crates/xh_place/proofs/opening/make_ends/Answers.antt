use Rattle.xh_place.proofs.Common.{arith, ◌≡◌, ◌≤◌, ℕ, [], ◌∷◌, length, refl, sym, ap, ◌∙◌, subst, Some, slice_get, put, value_at, without, IsLotOf, IsRecord, End, ◌++◌, Acts, acts_lent}
use Rattle.xh_place.proofs.Common.{claimed, vacated}
use Rattle.xh_place.proofs.Common.{starts_more, starts_same}
use Rattle.xh_place.proofs.Gained.{both_put, has_first, has_other, two_gone}
use Rattle.xh_place.specs.Vaults.{AsksEach}
use Rattle.xh_place.proofs.opening.make_ends.Goals as goal

pub fit_ends-fitted-requires-clause-held : goal.fit_ends-fitted-requires-clause-held
fit_ends-fitted-requires-clause-held g c =
    let k = c.in-Some.ensures.claimed in let r : ℕ = c.in-Some.r in let q : ℕ = c.in-Some.t in let l = k.0 in let m = k.1 in let two = k.2.two in
    let shape = sym (ap (λ h. h.shape) two.lots.0) in let names = c.args.seat.now.shape.names in
    let ids : Some m.id ≡ Some l.id = sym k.2.second.1.1 ∙ ap (slice_get names) (two.second_arena ∙ sym two.first_arena) ∙ k.2.first.1.1 in
    let near : m.id ≡ l.id = cc in (
      l,
      m,
      record {
        first = (has_first two, subst (λ s. IsRecord s r) shape k.2.first.0, subst (λ s. IsLotOf s r l) shape k.2.first.1);
        second = (has_other two, subst (λ s. IsRecord s q) shape k.2.second.0, subst (λ s. IsLotOf s q m) shape k.2.second.1);
        apart = two.apart;
        near = near;
        empty = (k.2.first.2.0, k.2.second.2.0);
      },
    )

pub returns-in_default-fitted-clause-made : goal.returns-in_default-fitted-clause-made
returns-in_default-fitted-clause-made g c =
    let k = c.in-Some.ensures.claimed in let r : ℕ = c.in-Some.r in let q : ℕ = c.in-Some.t in let l = k.0 in let m = k.1 in let two = k.2.two in let lots = c.args.seat.now.lots in
    let fitted = c.in_default-fitted.ensures.fitted l m (has_first two) (has_other two) in
    let l' = record l { len = 32; body = End c.args.low } in let m' = record m { len = 32; body = End c.args.high } in
    let mid = c.claim_two.new.seat in let seat = c.args.seat.now in
    let now = acts_lent (claimed seat.process (r ∷ q ∷ [])) (lots ++ (r, l) ∷ (q, m) ∷ []) (put q m' (put r l' mid.lots)) seat mid c.fit_ends-fitted.new.seat two.lots fitted in
    let whole = ap (λ h. put q m' (put r l' h.lots)) two.lots.0 ∙ both_put lots r q two.first_fresh two.second_fresh two.apart l m l' m' in
    let made = subst (λ z. Acts (claimed seat.process (r ∷ q ∷ [])) z seat c.fit_ends-fitted.new.seat) whole now in (
      l',
      m',
      record {
        two = record { lots = made; first_fresh = two.first_fresh; second_fresh = two.second_fresh; apart = two.apart; first_arena = two.first_arena; second_arena = two.second_arena };
        first = record { exists = k.2.first.0; lot = k.2.first.1; full = (omega arith, refl) };
        second = record { exists = k.2.second.0; lot = k.2.second.1; full = (omega arith, refl) };
      },
      refl,
      refl,
    )

pub returns-in_default-fitted-clause-asked : goal.returns-in_default-fitted-clause-asked
returns-in_default-fitted-clause-asked g c =
    let vaults = c.args.desk.now.vaults in let left = c.fit_ends-fitted.new.desk.vaults in
    subst (λ (a : ℕ). AsksEach g.V.Vaults.changes (a ∷ a ∷ []) vaults left) c.in-Some.ensures.claimed.2.two.first_arena c.in_default-fitted.ensures.asked

pub vacate_two-requires-clause-held : goal.vacate_two-requires-clause-held
vacate_two-requires-clause-held g c =
    let k = c.in-Some.ensures.claimed in let r : ℕ = c.in-Some.r in let q : ℕ = c.in-Some.t in let l = k.0 in let m = k.1 in let two = k.2.two in let same = c.in-Err.ensures.refused.0 in (
      l,
      m,
      ap (λ h. value_at r h.lots) same ∙ has_first two,
      ap (λ h. value_at q h.lots) same ∙ has_other two,
      k.2.first.2,
      k.2.second.2,
    )

pub returns-in_default-clause-refused : goal.returns-in_default-clause-refused
returns-in_default-clause-refused g c = let n = c.in_default.ensures.claimed in (
  (n.0, omega (arith, n.1.0), n.2, n.3),
  refl,
  refl,
  refl,
)

pub returns-clause-refused : goal.returns-clause-refused
returns-clause-refused g c =
    let k = c.in-Some.ensures.claimed in let r : ℕ = c.in-Some.r in let q : ℕ = c.in-Some.t in let f = c.in-Err.ensures.refused in (
      two_gone k.2.two c.vacate_two.new.seat (λ cs. length cs ≤ 2) (omega arith)
          (subst (λ h. Acts (vacated h.process q ++ vacated h.process r) (without r (without q h.lots)) h c.vacate_two.new.seat) f.0 c.vacate_two.ensures.free),
      f.1,
      f.2,
      f.3,
    )

pub returns-in_default-fitted-clause-seen : goal.returns-in_default-fitted-clause-seen
returns-in_default-fitted-clause-seen g c =
    let k = c.in-Some.ensures.claimed in let r : ℕ = c.in-Some.r in let q : ℕ = c.in-Some.t in let l = k.0 in let m = k.1 in let two = k.2.two in let mid = c.claim_two.new.seat in
    let fitted = c.in_default-fitted.ensures.fitted l m (has_first two) (has_other two) in
    starts_more c.args.seat.now.front c.claim_two.ensures.seen (starts_same (ap (λ h. h.front) fitted))
