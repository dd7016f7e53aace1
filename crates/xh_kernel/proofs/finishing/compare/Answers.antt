use Rattle.xh_kernel.proofs.Common.{AccountOf, All, Entry, HasSeenAll, List, PenOf, VaultOf, length, rules, subst, true, ◌∙◌, ◌≡◌}
use Rattle.xh_calls.specs.Vaults.{AreInOrder}
use Rattle.xh_kernel.proofs.Compared.{LookSaw}
use Rattle.xh_model.specs.declared.limits.TheConstants.{PLACES}
use Rattle.xh_kernel.proofs.finishing.compare.Goals as goal

pub returns-clause-seen : goal.returns-clause-seen
returns-clause-seen g c =
    let pens : List (PenOf Entry) = c.args.pens.items in let vault_pens : List (PenOf VaultOf) = c.args.vault_pens.items in let all : List AccountOf = c.args.accounts.items in
    let same : c.as_mut_slice-all.result.now ≡ pens = search rules in let same_vaults : c.as_mut_slice-arenas.result.now ≡ vault_pens = search rules in
    let same_all : c.as_mut_slice-each.result.now ≡ all = search rules in let same_then : c.compare_accounts.new.pens ≡ pens = c.compare_accounts.ensures.same.0 ∙ same in
    let is : c.are_in_order.result ≡ true = search rules in record {
      in_order = subst (λ (ps : List (PenOf Entry)). (length ps ≡ PLACES) × AreInOrder ps) same (c.are_in_order.ensures.0 is);
      seen = subst (λ (z : List (PenOf Entry) × List (PenOf VaultOf) × List AccountOf). All (HasSeenAll z.0 z.1) z.2) (λ i. (same i, same_vaults i, same_all i)) c.compare_accounts.ensures.seen;
      looked = subst (λ (ps : List (PenOf Entry)). All (LookSaw ps) c.args.looks.items) same_then c.compare_looks.ensures.looked;
    }
