use Rattle.std.proofs.lemmas.Grind.{common_steps}
use Rattle.xh_kernel.proofs.Common.{AccountOf, Entry, HasSeenAll, List, PenOf, VaultOf, arith, below_more, get_or, subst, ◌∙◌, ◌≡◌}
use Rattle.xh_kernel.proofs.Compared.{same_tallies}
use Rattle.xh_kernel.proofs.finishing.compare_accounts.Goals as goal

pub loop-account-preserved : goal.loop-account-preserved
loop-account-preserved g c =
    let l = c.loop-account in let all = c.args.accounts.now in let pens = c.args.pens.now in let vault_pens = c.args.vault_pens.now in (
      grind (arith, common_steps),
      grind (arith, common_steps),
      same_tallies l.accounts l.account-index _ _ c.compare_account.ensures.same.2 ∙ l.invariant.2,
      below_more (λ k. (d : AccountOf) → HasSeenAll pens vault_pens (get_or all k d)) l.account-index l.invariant.3
          (λ d. let same : get_or l.accounts l.account-index c.account-item.result ≡ get_or all l.account-index d = grind (arith, common_steps) in
          subst (λ (z : List (PenOf Entry) × List (PenOf VaultOf) × AccountOf). HasSeenAll z.0 z.1 z.2) (λ i. (l.invariant.0 i, l.invariant.1 i, same i)) c.compare_account.ensures.seen),
      λ k d above. grind (arith, common_steps),
    )

pub returns-clause-seen : goal.returns-clause-seen
returns-clause-seen g c = λ k d below. c.loop-account.invariant.3 k (grind (arith, common_steps)) d
