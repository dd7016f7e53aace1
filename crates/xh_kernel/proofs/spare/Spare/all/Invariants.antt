use Rattle.std.proofs.Common.{All, length, vec_len, ℕ, ◌+◌, ◌≡◌}
use Rattle.std.specs.Slice.Iter.{iter_mut_rest}
use Rattle.xh_kernel.specs.Accounts.{AccountOf, fresh}
use Rattle.xh_kernel.proofs.spare.Spare.all.Given as goal

abbrev pub invariant-loop-account : goal.invariant-loop-account
invariant-loop-account g l =
    let rest = iter_mut_rest l.account-iterator in
    (vec_len l.spares + length rest ≡ length l.fn.accounts)
    × All (λ (a : AccountOf). (k : ℕ) × (a ≡ fresh g.N.Names.parts k)) rest
    × All (λ s. (k : ℕ) × (s.account.now ≡ fresh g.N.Names.parts k)) l.spares.items
