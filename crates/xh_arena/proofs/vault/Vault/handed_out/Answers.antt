use Rattle.xh_arena.proofs.Common.{arith, nat_tests, sym, ◌∙◌, sum-lengths}
use Rattle.xh_arena.proofs.Weights.{weigh_all}
use Rattle.xh_arena.proofs.vault.Vault.handed_out.Goals as goal

pub returns-clause-sum : goal.returns-clause-sum
returns-clause-sum c = rw (← c.self.view_is) (c.handed_out.ensures.sum ∙ sym (sum-lengths c.self.inside.arena))

pub returns-clause-books : goal.returns-clause-books
returns-clause-books c = grind (arith, nat_tests, weigh_all, sum-lengths)
