use Rattle.std.specs.Prelude.{replicate}
use Rattle.xh_calls.proofs.Common.{Body, IsNew, IsUnused, None, VaultOf, ap, fits_in, length, length-replicate, sym, ℕ, ◌∙◌}
use Rattle.xh_calls.proofs.Made.{makings_more}
use Rattle.xh_calls.proofs.making.add_vault.Goals as goal

pub returns-clause-makings : goal.returns-clause-makings
returns-clause-makings c =
    let w = c.args.workers in let n = c.args.config.records in let size = c.args.config.bytes in let wear = c.args.config.wear in
    let v : VaultOf = c.in-Ok.vault in
    let e = c.in-Ok.ensures.vault in
    let is : IsNew w n size wear v = (
      ap (λ (z : VaultOf). z.workers) e,
      ap (λ (z : VaultOf). z.collected) e,
      c.in-Ok.ensures.limits.some_workers,
      ap (λ (z : VaultOf). z.arena.records) e,
      ap (λ (z : VaultOf). length z.arena.cover) e ∙ length-replicate size _,
      ap (λ (z : VaultOf). z.arena.limit) e,
    ) in
    let long = ap (λ (z : VaultOf). z.arena.cover) e in
    let unused : IsUnused v = (
      long ∙ ap (λ (k : ℕ). replicate k None) (sym is.4),
      ap (λ (z : VaultOf). z.arena.wear) e,
      ap (λ (z : VaultOf). z.back) e,
    ) in
    let made = makings_more _ w n size wear c.args.makings.vaults.items c.args.makings.lots.items c.in-Ok.more.items c.args.makings.names v
    (λ b new. ap (λ (z : Body). fits_in z 0) new) c.requires.makings is unused c.in-Ok.ensures.lots in
    rw (c.in_ok-push.ensures.items, c.in_ok-push_back.ensures.items, c.in_ok-append.ensures.items, c.name.ensures.same, c.name.ensures.name) made
