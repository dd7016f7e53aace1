use Rattle.xh_core.proofs.Common.{AreCarved, IsConfig, IsLawful, None, Store, ap, arena_at, length, replicate, rules, subst, sym, ℕ, ◌*◌, ◌<◌, ◌∙◌, ◌≡◌}
use Rattle.xh_model.specs.Store.{new_store}
use Rattle.xh_core.proofs.FreshPlain.{new_lawful, new_records, new_carved}
use Rattle.xh_core.proofs.plain.Plain.new.Goals as goal

pub invariant_of-result : goal.invariant_of-result
unfolding new_store
invariant_of-result c =
    let is : IsConfig c.args.config = search rules in
    let s : Store = record { owners = c.in_ok-owners.owners.items; arenas = c.in_ok-arenas.arenas.items } in
    let owners : s.owners ≡ (new_store c.args.config).owners = c.in_ok-owners.ensures ∙ ap (λ (n : ℕ). replicate (256 * n) None) c.from.ensures in
    let arenas : s.arenas ≡ (new_store c.args.config).arenas = c.in_ok-arenas.ensures.fresh in
    let same : s ≡ new_store c.args.config = λ i. record { owners = owners i; arenas = arenas i } in (
      subst IsLawful (sym same) (new_lawful c.args.config is),
      subst (λ (t : Store). (k : ℕ) → k < length t.arenas → (arena_at t k).records ≡ c.args.config.records) (sym same) (new_records c.args.config is),
      subst AreCarved (sym same) (new_carved c.args.config is),
    )
