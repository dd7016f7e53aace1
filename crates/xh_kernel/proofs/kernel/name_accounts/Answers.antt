use Rattle.xh_kernel.proofs.Common.{AccountOf, Entry, FrontOf, IsBundle, VaultOf, ap, arith, each_push, first_of, fresh_front, into_iter_len, length}
use Rattle.xh_kernel.proofs.Common.{rest_of, rules, subst, sym, vec_len, ℕ, ◌<◌, ◌∙◌, ◌≡◌}
use Rattle.xh_calls.specs.inner.Making.{AreFreshTallies}
use Rattle.xh_kernel.specs.Accounts.{fresh}
use Rattle.xh_kernel.proofs.kernel.name_accounts.Goals as goal

pub named-requires : goal.named-requires
named-requires g c =
    let was = c.loop-bundle.invariant in let step = c.in-Some.ensures.steps in let parts = g.N.Names.parts in let done = vec_len c.loop-bundle.accounts in
    let names = parts.records.shape.names in let some : 0 < into_iter_len c.loop-bundle.bundle-iterator = omega (arith, step.1) in
    let here = first_of (IsBundle names) done _ _ c.in-Some.bundle step.0 _ was.2 some in record {
      tallies = subst (λ (k : ℕ). AreFreshTallies names k c.in-Some.bundle.tallies.items) (sym here.0) here.1;
      front = first_of (λ k (x : FrontOf Entry). x ≡ fresh_front parts.histories k) done _ _ c.in-Some-Some.front c.in-Some-Some.ensures.items _ was.3 (omega (arith, was.1, some))
          ∙ ap (fresh_front parts.histories) (sym here.0);
      seen = first_of (λ k (x : FrontOf VaultOf). x ≡ fresh_front parts.vaults k) done _ _ c.in-Some-Some.seen c.in-Some-Some.ensures'.items _ was.5 (omega (arith, was.4, some))
          ∙ ap (fresh_front parts.vaults) (sym here.0);
      worker = omega (arith, here.0, was.0, some, c.requires.workers);
    }

pub loop-bundle-preserved : goal.loop-bundle-preserved
loop-bundle-preserved g c =
    let was = c.loop-bundle.invariant in let step = c.in-Some.ensures.steps in let parts = g.N.Names.parts in let done = vec_len c.loop-bundle.accounts in
    let P : ℕ → AccountOf → Type 0 = λ k a. a ≡ fresh parts k in
    let here : c.in-Some.bundle.number ≡ length c.loop-bundle.accounts.items = let h = was.2 0 c.in-Some.bundle in grind rules in (
      search rules,
      search rules,
      rest_of (IsBundle parts.records.shape.names) done _ _ c.in-Some.bundle step.0 _ was.2 _ _ step.1 (search rules),
      rest_of (λ k (x : FrontOf Entry). x ≡ fresh_front parts.histories k) done _ _ c.in-Some-Some.front c.in-Some-Some.ensures.items _ was.3 _ _ (search rules) (search rules),
      search rules,
      rest_of (λ k (x : FrontOf VaultOf). x ≡ fresh_front parts.vaults k) done _ _ c.in-Some-Some.seen c.in-Some-Some.ensures'.items _ was.5 _ _ (search rules) (search rules),
      rw c.in_ok-push.ensures.items (each_push P _ _ was.6 (c.named.ensures ∙ ap (fresh parts) here)),
    )
