use Rattle.xh_kernel.proofs.Common.{ap, arith, fresh_pen, rules, there, ◌+◌, ◌∙◌, ◌≡◌}
use Rattle.xh_kernel.proofs.parts.make_parts.Goals as goal

pub invariant_of-result : goal.invariant_of-result
invariant_of-result c =
    let unseen = c.in_ok-histories.ensures.fronts in let unasked = c.in_ok-vault_histories.ensures.fronts in let pens = c.in_ok-vault_histories.ensures.pens in record {
      vaults = search rules;
      open_vaults = search rules;
      unused = search rules;
      arenas = search rules;
      size = search rules;
      places = search rules;
      often = search rules;
      seats = (search rules, λ k d below. c.in-Ok.ensures.seats.1 k _ (there _ k d (search rules)));
      bundles = search rules;
      pens_are = (search rules, c.in_ok-histories.ensures.pens.1);
      looks_are = search rules;
      fronts_are = (search rules, λ k d below. unseen.1 k d (let few = unseen.0 in search rules));
      vault_pens_are = (search rules, λ k d below. pens.1 k d (let few = pens.0 in search rules) ∙ ap (fresh_pen c.in_ok-vault_histories.vault_histories) (let e : k ≡ 0 + k = omega arith in e));
      seen_are = (search rules, λ k d below. unasked.1 k d (let few = unasked.0 in search rules));
    }
