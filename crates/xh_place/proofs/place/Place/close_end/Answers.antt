use Rattle.xh_place.proofs.Common.{arith, rules, ◌≡◌, ℕ, ◌-◌, ◌+◌, length, length-append, refl, sym, subst, ap, ◌∙◌, ◌++◌, [], ◌∷◌, Acts, Becomes, Did, IsClosed, IsSeen, IsSwept, Held, MAX_BUDGET}
use Rattle.xh_place.proofs.Common.{Body, LotOf, Some, end_tests, found}
use Rattle.xh_place.proofs.Common.{PlaceSeen, List, Event, Item, becomes, did_starts, is_over, item_of, less, less_shown, now_is, reclaimed, seen_wide, shown, shown_append, shown_long, start}
use Rattle.xh_place.proofs.Common.{starts_same, swept_as}
use Rattle.xh_place.proofs.Common.{Sweeps, item_in, unrefused, value_at, with_lots, without}
use Rattle.xh_place.proofs.Words.{Status}
use Rattle.xh_place.proofs.Deeds.{did_since}
use Rattle.xh_place.proofs.Swept.{still, swept_end}
use Rattle.xh_place.specs.Calls.{Closes}
use Rattle.xh_place.specs.Vaults.{BringsBack}
use Rattle.xh_place.proofs.place.Place.close_end.Goals as goal

-- a sweep of the endpoint, which stood last, once the place had looked
closed : (e from bytes : ℕ) (seat mid : Held Body) (list : List ℕ) (state : Status) (l : LotOf Body) (log : List (Event × Item)) (new : PlaceSeen) → Acts [] seat.lots seat mid
    → value_at e seat.lots ≡ Some l
    → from ≡ length (less e list ++ e ∷ []) - 1 → IsSwept (IsSeen mid new.seat) mid.process from MAX_BUDGET (shown mid.lots (less e list ++ e ∷ [])) (shown new.seat.lots new.list) bytes log
    → Becomes new.seat.lots new.list log (record { seat = mid; list = less e list ++ e ∷ []; state = state }) new
    → (left : List (ℕ × Item)) × Sweeps (IsSeen seat new.seat) seat.process MAX_BUDGET ((e, item_of l) ∷ []) left bytes log × (shown new.seat.lots new.list ≡ without e (shown seat.lots list) ++ left)
    × Becomes new.seat.lots new.list log (record { seat = seat; list = list; state = state }) new
closed e from bytes seat mid list state l log new same at here is moved =
    let whose = ap (λ (h : Held Body). h.process) same.0 in let others : List (ℕ × Item) = without e (shown seat.lots list) in
    let wide = seen_wide mid new.seat seat new.seat (ap (λ (h : Held Body). h.shape) same.0) whose (did_starts seat.process [] seat.front mid.front same.1) (starts_same refl) in
    let all : shown mid.lots (less e list ++ e ∷ []) ≡ others ++ (e, item_of l) ∷ [] = ap (λ (h : Held Body). shown h.lots (less e list ++ e ∷ [])) same.0
    ∙ shown_append seat.lots (less e list) (e ∷ [])
    ∙ (λ i. less_shown e seat.lots list i ++ (e, item_in (at i)) ∷ []) in
    let ahead : from ≡ length others = omega (arith, here, length-append (less e list) (e ∷ []), shown_long seat.lots (less e list), ap length (less_shown e seat.lots list)) in
    let swept = swept_as (IsSeen mid new.seat) (IsSeen seat new.seat) wide mid.process from MAX_BUDGET (shown mid.lots (less e list ++ e ∷ [])) (shown new.seat.lots new.list) bytes log is in
    let end = swept_end (IsSeen seat new.seat) seat.process others ((e, item_of l) ∷ []) MAX_BUDGET bytes log (shown mid.lots (less e list ++ e ∷ [])) (shown new.seat.lots new.list) all
    (subst (λ (z : ℕ × ℕ). IsSwept (IsSeen seat new.seat) z.0 z.1 MAX_BUDGET (shown mid.lots (less e list ++ e ∷ [])) (shown new.seat.lots new.list) bytes log) (λ i. (whose i, ahead i)) swept) in (
      end.0,
      end.1,
      end.2,
      (
        moved.0 ∙ ap (λ (h : Held Body). record { seat = record h { lots = new.seat.lots; front = new.seat.front }; list = new.list; state = state }) same.0,
        subst (λ (p : ℕ). Did p log seat.front new.seat.front) whose (did_since seat mid new.seat.front log same moved.1),
      ),
    )

pub returns-clause-closed : goal.returns-clause-closed
returns-clause-closed g c =
    let seat = c.self.inside.seat in let mid = c.test_end.new.seat in let list = c.self.inside.list.items in let state = c.self.inside.state in let new = c.sweep-bytes.new.self in let e = c.args.e in
    let bytes : ℕ = c.sweep-bytes.result.0 in let from : ℕ = c.count-from.result - 1 in let same = c.in_ok-test_end.ensures.same in let l = c.in_ok-test_end.ensures.tested.1.1 in
    let moved_last = c.move_last.ensures in let t = c.sweep-bytes.ensures.swept in
    let is = subst (λ (p : PlaceSeen). IsSwept (IsSeen p.seat new.seat) p.seat.process from MAX_BUDGET (shown p.seat.lots p.list) (shown new.seat.lots new.list) bytes t.0) moved_last t.1 in
    let moved = subst (λ (p : PlaceSeen). Becomes new.seat.lots new.list t.0 p new) moved_last t.2 in
    let here : from ≡ length (less e list ++ e ∷ []) - 1 = ap (λ n. n - 1) (c.count-from.ensures.count ∙ ap (λ (p : PlaceSeen). length p.list) moved_last) in
    let k = closed e from bytes seat mid list state l.0 t.0 new same l.1 here is moved in
    let left : c.sweep-bytes.result.1 ≡ length k.0 = c.sweep-bytes.ensures.left ∙ omega (
      arith,
      shown_long new.seat.lots new.list,
      ap length k.2,
      length-append (without e (shown seat.lots list)) k.0,
      here,
      length-append (less e list) (e ∷ []),
      shown_long seat.lots (less e list),
      ap length (less_shown e seat.lots list),
    ) in (
      bytes,
      subst (λ z. Closes z.state e bytes z new c.reclaimed.result) c.self.view_is (unrefused (start state ++ end_tests (found seat e)) c.reclaimed.result _ _ c.in_ok-test_end.ensures.tested.0
          (l.0, k.0, t.0, l.1, k.1, k.2, k.3, c.reclaimed.ensures ∙ ap (reclaimed bytes) left)),
      c.sweep-bytes.ensures.back,
    )

pub returns-in_err-test_end-clause-closed : goal.returns-in_err-test_end-clause-closed
returns-in_err-test_end-clause-closed g c =
    let t = c.in_err-test_end.ensures in let seat = c.self.inside.seat in let mid = c.test_end.new.seat in let state = c.self.inside.state in (
      0,
      subst (λ z. Closes z.state c.args.e 0 z (record { seat = mid; list = c.self.inside.list.items; state = state }) c.from_residual.result) c.self.view_is
          (rw t.tested (search rules, (becomes seat mid _ _ t.same refl refl, refl))),
      still g.V.Vaults.changes g.V.Vaults.tallies c.args.desk.now.vaults c.args.desk.now.vaults refl,
    )
