use Rattle.std.proofs.lemmas.List.{take_all, take_more}
use Rattle.std.proofs.lemmas.Option.{get_or_from_slice_get}
use Rattle.std.proofs.lemmas.Slice.Zip.{AllZip-long, all_zipped_more}
use Rattle.xh_calls.proofs.Common.{IsKeptVault, PenOf, Some, VaultOf, [], ap, arith, length, map_push, rules, slice_get, subst, sym, take, vault_names, vec_len, ℕ, ◌++◌, ◌+◌, ◌∙◌, ◌∷◌, ◌≡◌}
use Rattle.xh_calls.proofs.Lists.{below_get, each_push}
use Rattle.xh_calls.proofs.arenas.Arenas.into_vaults.Goals as goal

pub loop-lock-preserved : goal.loop-lock-preserved
loop-lock-preserved g c =
    let was = c.loop-lock.invariant in let parts = g.N.Names.parts in let zs = parts.records.shape.names in let v : VaultOf = c.into_parts-vault.result.0 in
    let pen : PenOf VaultOf = c.into_parts-vault.result.1 in let kept : IsKeptVault parts v pen = c.into_parts-vault.ensures in let n = vec_len c.loop-lock.vaults in
    let here : pen.number ≡ n = search rules in let at : slice_get zs n ≡ Some v.id = subst (λ (k : ℕ). slice_get zs k ≡ Some v.id) here kept.1.0 in
    let more : vec_len c.push.new.self ≡ n + 1 = search rules in let long = AllZip-long (IsKeptVault parts) c.loop-lock.vaults.items c.loop-lock.pens.items was.2 in
    let count : n ≡ length c.loop-lock.vaults.items = first_of (search rules, grind rules) in (
      search rules,
      subst (λ (k : ℕ). vault_names c.push.new.self.items ≡ take k zs) (sym more) (rw c.in_ok-push.ensures.items
          (map_push (λ (z : VaultOf). z.id) _ v ∙ ap (λ l. l ++ v.id ∷ []) was.1
          ∙ sym (take_more zs n v.id (below_get zs n v.id at) ∙ ap (λ z. take n zs ++ z ∷ []) (get_or_from_slice_get zs n v.id v.id at)))),
      rw (c.in_ok-push.ensures.items, c.in_ok-push-2.ensures.items) (all_zipped_more (IsKeptVault parts) _ _ v pen was.2 kept),
      rw c.in_ok-push-2.ensures.items (each_push (λ k (z : PenOf VaultOf). z.number ≡ k) _ pen was.3 (here ∙ count ∙ sym long)),
    )

pub returns : goal.returns
returns g c =
    let was = c.loop-lock.invariant in let zs = g.N.Names.parts.records.shape.names in let all : length zs ≡ vec_len c.loop-lock.vaults = search (rules, was.0) in record {
      kept = record { names = was.1 ∙ take_all (vec_len c.loop-lock.vaults) zs (omega (arith, all)); kept = was.2; in_order = was.3 };
      few = search rules;
      histories = search rules;
    }
