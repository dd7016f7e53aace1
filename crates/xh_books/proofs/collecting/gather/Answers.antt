use Rattle.xh_books.proofs.Common.{AccountOf, AreGathered, List, VaultOf, [], ap, drop, into_iter_items, length, length-map, nil_from_length, rules, subst, sym, take, take-append_seam, tallies_of}
use Rattle.xh_books.proofs.{Common.vault_names, Common.with_all, Common.◌++◌, Common.◌∙◌, Common.◌∷◌, Common.◌≡◌, Collected.all_more, Collected.gathered, Collected.none_more, Collected.same_names}
use Rattle.xh_books.proofs.collecting.gather.Goals as goal

pub loop-account-preserved : goal.loop-account-preserved
loop-account-preserved g c =
    let l = c.loop-account in let was = l.invariant in let x : AccountOf = c.in-Some.account in let rest = tallies_of (into_iter_items c.next.new.self) in
    let old : List VaultOf = l.vaults.items in let new : List VaultOf = c.collect_tallies.new.vaults in
    let made : new ≡ with_all 0 (x.tallies ∷ []) old = rw (← c.as_mut_slice.ensures.value, ← c.into_tallies.ensures.items) c.collect_tallies.ensures.each in
    let is : take l.vaults.len (new ++ drop (length new) old) ≡ new = ap (λ n. take n (new ++ drop (length new) old)) (search rules) ∙ take-append_seam new (drop (length new) old) in
    rw is (
      ap vault_names made ∙ same_names 0 (x.tallies ∷ []) old ∙ was.0,
      ap (with_all 0 rest) made ∙ all_more 0 x.tallies rest old ∙ ap (λ (xs : List AccountOf). with_all 0 (tallies_of xs) old) (sym c.in-Some.ensures.steps.0) ∙ was.1,
    )

pub returns : goal.returns
returns g c =
    let l = c.loop-account in let p = g.N.Names.parts in let vs : List VaultOf = c.args.vaults.items in let all = tallies_of c.args.accounts.items in
    let none = nil_from_length (into_iter_items l.account-iterator) (search rules) in
    let is : l.vaults.items ≡ with_all 0 all vs = sym (none_more 0 l.vaults.items) ∙ rw none at l.invariant.1 in
    subst (AreGathered p.records.shape.records all 0 vs) (sym is) (gathered p all 0 vs (length-map c.args.accounts.items (λ (a : AccountOf). a.tallies) ∙ search rules) c.requires.open_vaults)
