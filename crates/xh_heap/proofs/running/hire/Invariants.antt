use Rattle.std.proofs.Common.{All, vec_len, ℕ, ◌≡◌, ◌≤◌}
use Rattle.std.specs.Vec.{vec_capacity}
use Rattle.xh_heap.specs.Plans.{IsHired}
use Rattle.xh_kernel.specs.Accounts.{fresh}
use Rattle.xh_heap.proofs.running.hire.Given as goal

abbrev pub invariant-loop : goal.invariant-loop
invariant-loop g l =
    (vec_len l.all ≡ l.counter)
    × All (λ s. (k : ℕ) × (s.account.now ≡ fresh g.N.Names.parts k)) l.left.items
    × All (λ p. IsHired g.N.Names.parts g.N.Names.leads p.number p.account.now) l.all.items
    × (l.fn.count ≤ vec_capacity l.all)
