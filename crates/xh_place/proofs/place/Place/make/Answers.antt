use Rattle.xh_place.proofs.Common.{rules, arith, ◌≡◌, ◌+◌, ◌++◌, ap, length, refl, sym, ◌∙◌, subst, Err, FindsFull, LeavesIt, None, PlaceSeen, Tests, alloc_tests, block_small, first_refusal, gains}
use Rattle.xh_place.proofs.Common.{list_room, now_as, now_is}
use Rattle.xh_place.proofs.Common.{over_running, start, total_bound, untested}
use Rattle.xh_arena.specs.Views.{VaultOf}
use Rattle.xh_core.specs.declared.refused.Refused.{Refused}
use Rattle.xh_core.specs.declared.refused.Refused.TheVariants as refused
use Rattle.xh_place.specs.Calls.{IsLack}
use Rattle.xh_place.specs.Vaults.{IsNoBlock, IsRefusedAt}
use Rattle.xh_core.specs.Space.{rounded}
use Rattle.xh_place.proofs.place.Place.make.Goals as goal

-- what there was a lack of
lack_of : {V : Type 0} (changes : V → V → _ → VaultOf → VaultOf → Type 0) (old new : V) (a n : _) (full : Type 0) (e : Refused) → IsNoBlock changes old new a n full e
    → IsLack full (IsRefusedAt changes old new a n) e
lack_of changes old new a n full refused.NoRecord h = h.1
lack_of changes old new a n full refused.OutOfMemory h = tt
lack_of changes old new a n full e h = h

pub push_reserved-requires : goal.push_reserved-requires
push_reserved-requires g c = let t = c.in_ok-rec.ensures.block in list_room c.self.invariant t.3 t.1

pub overflow_add-self : goal.overflow_add-self
overflow_add-self g c = let t = c.in_ok-rec.ensures.block in omega (arith, total_bound c.self.invariant, block_small t.3, t.4, c.from-2.ensures)

pub invariant_of-self-2 : goal.invariant_of-self-2
invariant_of-self-2 g c =
    let t = c.in_ok-rec.ensures.block in
    now_as (now_is c.self.inside.seat c.make_block.new.seat t.2.0 (gains c.self.invariant t.3 t.1 (over_running c.self.inside.state (search rules))))
    c.push_reserved.ensures.items c.push_reserved.ensures.capacity (ap (λ n. c.self.inside.total + n) (c.from-2.ensures ∙ sym t.4))

pub returns-in_err-rec-clause-made : goal.returns-in_err-rec-clause-made
returns-in_err-rec-clause-made g c =
    let vaults = c.args.desk.now.vaults in let left = c.make_block.new.desk.vaults in let seat = c.self.inside.seat in let last = c.make_block.new.seat in
    let e = c.in_err-rec.field-0.0 in let is : c.from_residual-in_err-rec.result ≡ Err e = search rules in
    let tests : Tests = start c.args.self.now.state ++ alloc_tests c.args.arena (length c.args.self.now.seat.shape.names) c.args.n (g.V.Vaults.extent vaults) in
    let passed : first_refusal tests ≡ None = search rules in
    let why = subst (λ k. IsNoBlock g.V.Vaults.changes vaults left c.args.arena k (FindsFull 0 seat last c.args.arena) e) c.round_up-len.ensures.result c.in_err-rec.ensures.why in
    let lack = lack_of g.V.Vaults.changes vaults left c.args.arena (rounded c.args.n) (FindsFull 0 seat last c.args.arena) e why in
    rw is (record {
      made = tt;
      block = tt;
      refused = subst (λ (z : PlaceSeen). LeavesIt 1 c.args.arena z (record { seat = last; list = c.self.inside.list.items; state = c.self.inside.state })) c.self.view_is
          (c.in_err-rec.ensures.refused.0, refl, refl);
      why = untested tests _ _ passed (subst (λ (z : PlaceSeen). IsLack (FindsFull 0 z.seat last c.args.arena) (IsRefusedAt g.V.Vaults.changes vaults left c.args.arena (rounded c.args.n)) e)
          c.self.view_is lack);
    })
