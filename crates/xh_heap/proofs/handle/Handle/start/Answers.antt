use Rattle.std.proofs.Common.{Ok, subst, sym, ℕ}
use Rattle.xh_kernel.specs.Waits.{SpawnsAt}
use Rattle.xh_heap.proofs.handle.Handle.start.Goals as goal

pub returns-in-Ok-clause-started : goal.returns-in-Ok-clause-started
returns-in-Ok-clause-started g c =
    subst (λ (n : ℕ). SpawnsAt g.N.Names.parts g.N.Names.leads c.args.spare.account.now c.in-Ok.account.now (Ok n)) (sym c.number.ensures) c.in-Ok.ensures.0
