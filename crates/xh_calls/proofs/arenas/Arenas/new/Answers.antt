use Rattle.xh_calls.proofs.Common.{IsOpen, IsUnused, IsVaultOf, List, PenOf, Some, VaultOf, ap, arith, drop, fresh_pen, length, rules, slice_get, subst, sym, vec_len, ℕ, ◌+◌, ◌<◌, ◌∙◌, ◌∷◌, ◌≡◌}
use Rattle.std.proofs.lemmas.List.{drop_more, length-drop}
use Rattle.std.proofs.lemmas.Option.{get_or_from_slice_get, slice_get-get_or, slice_get-map, slice_get_within}
use Rattle.std.specs.Prelude.{option_map}
use Rattle.xh_calls.proofs.arenas.Arenas.new.Goals as goal

-- the next of those that are left
next : {A : Type 0} (xs : List A) (k : ℕ) (x : A) (was rest : List A) → was ≡ x ∷ rest → was ≡ drop k xs → (slice_get xs k ≡ Some x) × (rest ≡ drop (k + 1) xs)
next xs k x was rest is left =
    let e = sym is ∙ left in let long = ap length e in let below : k < length xs = omega (arith, length-drop k xs, long) in
    let more = e ∙ drop_more xs k x below in let at = slice_get-get_or xs k x below in (cc, cc)

pub new-requires : goal.new-requires
new-requires g c =
    let parts = g.N.Names.parts in let done : ℕ = vec_len c.loop-vault.locks in let was = c.loop-vault.invariant in let v : VaultOf = c.in-Some.vault in let pens = c.args.pens.items in
    let at = (next c.args.vaults.items done v _ _ c.in-Some.ensures.steps.0 was.1).0 in let p = (next pens done c.in-Some-next.pen _ _ c.in-Some-next.ensures.items was.2).0 in
    let pen : c.in-Some-next.pen ≡ fresh_pen parts.vaults done =
    sym (get_or_from_slice_get pens done _ c.in-Some-next.pen p) ∙ c.requires.histories.1.1 done c.in-Some-next.pen (slice_get_within pens done _ p)
    ∙ ap (fresh_pen parts.vaults) (let e : 0 + done ≡ done = omega arith in e) in
    let opened = subst (λ (z : VaultOf). IsOpen parts z) (get_or_from_slice_get c.args.vaults.items done v v at) (c.requires.open_vaults done v (slice_get_within _ done v at)) in
    let name : slice_get parts.records.shape.names done ≡ Some v.id =
    ap (λ zs. slice_get zs done) (sym c.requires.names) ∙ slice_get-map (λ (z : VaultOf). z.id) c.args.vaults.items done ∙ ap (option_map (λ (z : VaultOf). z.id)) at in record {
      vault = subst (λ (p : PenOf VaultOf). IsVaultOf parts p.number v) (sym pen) (name, opened);
      unused = subst IsUnused (get_or_from_slice_get c.args.vaults.items done v v at) (c.requires.unused done v (slice_get_within _ done v at));
      pen = pen ∙ ap (fresh_pen parts.vaults) (sym (ap (λ (p : PenOf VaultOf). p.number) pen));
    }

pub loop-vault-preserved : goal.loop-vault-preserved
loop-vault-preserved g c =
    let was = c.loop-vault.invariant in let step = c.in-Some.ensures.steps in
    let vaults = (next c.args.vaults.items _ c.in-Some.vault _ _ step.0 was.1).1 in let pens = (next c.args.pens.items _ c.in-Some-next.pen _ _ c.in-Some-next.ensures.items was.2).1 in
    (search rules, search (rules, vaults), search (rules, pens))
