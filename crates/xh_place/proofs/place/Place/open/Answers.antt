use Rattle.xh_place.proofs.Common.{rules, arith, ◌≡◌, ◌+◌, ◌<◌, List, [], ◌∷◌, ◌++◌, length, refl, sym, ap, ◌∙◌, subst, Err, None, IfErr, Ok, OnOk, append_assoc, arena_tests}
use Rattle.xh_place.proofs.Common.{◌≤◌, ℕ, FindsFull, LetsGo, PlaceSeen, Stays, becomes, claimed, first_refusal, list_room, now_as, now_is, over_running, Some, start, stays_itself, Tests}
use Rattle.xh_place.proofs.Common.{total_bound, untested}
use Rattle.xh_place.specs.Opening.{Opens}
use Rattle.xh_place.specs.Vaults.{IsNoPair}
use Rattle.xh_place.proofs.Gained.{both_held, opened, room_second}
use Rattle.xh_place.proofs.place.Place.open.Goals as goal

pub push_reserved-requires : goal.push_reserved-requires
push_reserved-requires g c = let made = c.in_ok-made.ensures.made.2 in list_room c.self.invariant made.first made.two.first_fresh

pub push_reserved-requires-2 : goal.push_reserved-requires-2
push_reserved-requires-2 g c =
    let fits = room_second c.self.invariant (over_running c.self.inside.state (search rules)) c.in_ok-made.ensures.made.2 in
    let room : length c.push_reserved.new.self.items < c.push_reserved.new.self.capacity =
    subst (λ (z : List ℕ × ℕ). length z.0 < z.1) (λ i. (sym c.push_reserved.ensures.items i, sym c.push_reserved.ensures.capacity i)) fits in search rules

pub overflow_add-self : goal.overflow_add-self
overflow_add-self g c = omega (arith, total_bound c.self.invariant, c.from-2.ensures)

pub invariant_of-self-2 : goal.invariant_of-self-2
invariant_of-self-2 g c =
    let k = c.in_ok-made.ensures.made in
    now_as (opened c.self.invariant (over_running c.self.inside.state (search rules)) k.2) (c.push_reserved-2.ensures.items ∙ ap (λ z. z ++ c.in_ok-made.made.1 ∷ []) c.push_reserved.ensures.items)
    (c.push_reserved-2.ensures.capacity ∙ c.push_reserved.ensures.capacity)
    (let sum : c.self.inside.total + c.from-2.result ≡ c.self.inside.total + k.0.len + k.1.len = omega (arith, c.from-2.ensures, ap (λ x. x.len) k.3, ap (λ x. x.len) k.4) in sum)

pub returns-clause-opened : goal.returns-clause-opened
returns-clause-opened g c =
    let k = c.in_ok-made.ensures.made in let seat = c.self.inside.seat in let last = c.make_ends.new.seat in let state = c.self.inside.state in let list = c.self.inside.list.items in
    let r = c.in_ok-made.made.0 in let t = c.in_ok-made.made.1 in
    let items : c.push_reserved-2.new.self.items ≡ list ++ r ∷ t ∷ [] = c.push_reserved-2.ensures.items ∙ ap (λ z. z ++ t ∷ []) c.push_reserved.ensures.items ∙ append_assoc list (r ∷ []) (t ∷ []) in
    subst (λ z. Opens c.args.arena c.args.low c.args.high z (record { seat = last; list = c.push_reserved-2.new.self.items; state = state }) (g.V.Vaults.tallies c.args.desk.now.vaults)
    (g.V.Vaults.tallies c.make_ends.new.desk.vaults) (Ok (record { rec = r; len = 32 }, record { rec = t; len = 32 }))) c.self.view_is (
      (k.0, k.1, k.3, k.4, becomes seat last _ _ k.2.two.lots items refl),
      (refl, k.2.two.first_arena),
      (refl, k.2.two.second_arena),
      c.in_ok-made.ensures.taken,
      both_held c.self.invariant (over_running state (search rules)) k.2 k.3 k.4,
    )

pub invariant_of-self : goal.invariant_of-self
invariant_of-self g c = now_is c.self.inside.seat c.make_ends.new.seat c.in_err-made.ensures.refused.0.3.0 c.self.invariant

pub returns-in_err-made-clause-opened : goal.returns-in_err-made-clause-opened
returns-in_err-made-clause-opened g c =
    let f = c.in_err-made.ensures.refused in let is : c.from_residual.result ≡ Err c.in_err-made.field-0.0 = search rules in
    rw is (f.2, f.3, (subst (λ z. LetsGo (λ cs. length cs ≤ 2) c.args.arena z.seat c.make_ends.new.seat) c.self.view_is f.0, ap (λ z. z.list) c.self.view_is, ap (λ z. z.state) c.self.view_is), f.1)

pub returns-in_err-made-clause-why : goal.returns-in_err-made-clause-why
returns-in_err-made-clause-why g c =
    let vaults = c.args.desk.now.vaults in let left = c.make_ends.new.desk.vaults in let last = c.make_ends.new.seat in let old = c.args.self.now in
    let new : PlaceSeen = record { seat = last; list = c.self.inside.list.items; state = c.self.inside.state } in
    let arena : ℕ = c.args.arena in let u = c.in_err-made.field-0.0 in
    let is : c.from_residual.result ≡ Err u = search rules in
    let tests : Tests = start old.state ++ arena_tests arena (length old.seat.shape.names) in
    let passed : first_refusal tests ≡ None = search rules in
    let why = subst (λ z. IsNoPair g.V.Vaults.changes vaults left arena 64 (FindsFull 1 z.seat last arena) u.why) c.self.view_is c.in_err-made.ensures.why in
    untested tests (IfErr c.from_residual.result (λ z. IsNoPair g.V.Vaults.changes vaults left arena 64 (FindsFull 1 old.seat last arena) z.why))
    (λ refused. IfErr c.from_residual.result (λ z. z.why ≡ refused) × OnOk c.from_residual.result ⊥ × ((left ≡ vaults) × Stays old new)) passed (rw is why)

pub returns-in-Err-clause-why : goal.returns-in-Err-clause-why
returns-in-Err-clause-why g c =
    let old = c.args.self.now in
    let first : first_refusal (start old.state ++ arena_tests c.args.arena (length old.seat.shape.names)) ≡ Some c.in-Err.why = search rules in
    rw first (refl, tt, (refl, stays_itself old))
