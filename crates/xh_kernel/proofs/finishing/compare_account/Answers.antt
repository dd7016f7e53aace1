use Rattle.xh_kernel.proofs.Common.{AccountOf, Entry, FrontOf, HasSeenEach, History, List, VaultOf, ap, subst, ℕ, ◌∙◌}
use Rattle.xh_kernel.proofs.finishing.compare_account.Goals as goal

pub returns-clause-seen : goal.returns-clause-seen
returns-clause-seen g c = let view = c.account.view_is in (
  subst (λ (z : ℕ × List (History Entry)). HasSeenEach c.args.pens.now z.0 z.1)
      (λ i. ((c.account.invariant.2 ∙ ap (λ (a : AccountOf). a.number) view) i, ap (λ (a : AccountOf). a.fronts) view i)) c.compare_front.ensures.seen,
  subst (λ (f : FrontOf VaultOf). HasSeenEach c.args.vault_pens.now f.number f.fronts) (ap (λ (a : AccountOf). a.vaults) view) c.compare_front-2.ensures.seen,
)
