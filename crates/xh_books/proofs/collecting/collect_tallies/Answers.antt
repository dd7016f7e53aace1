use Rattle.std.proofs.lemmas.List.{map-set}
use Rattle.xh_books.proofs.Common.{Move, VaultOf, [], ap, get_or, get_or-map, length, rules, set, set-get_or, sym, vault_names, ◌<◌, ◌∙◌, ◌∷◌, ◌≡◌}
use Rattle.xh_books.proofs.Collected.{next_tally, one_more}
use Rattle.xh_books.proofs.collecting.collect_tallies.Goals as goal

pub collect-requires : goal.collect-requires
collect-requires c =
    let l = c.loop-tally in
    (next_tally c.args.tallies.items _ l.vaults l.arena c.in-Some.tally c.index-vaults-arena.result l.invariant.2 (sym l.invariant.1 ∙ c.in-Some.ensures.steps.0) (search rules)).0

pub loop-tally-preserved : goal.loop-tally-preserved
loop-tally-preserved c =
    let l = c.loop-tally in let was = l.invariant in let k = l.arena in let v = c.index-vaults-arena.result in let new = c.collect.new.self in let kept = c.collect.ensures.kept in
    let inside : k < length l.vaults = search rules in let id : VaultOf → _ = λ x. x.id in
    let next = next_tally c.args.tallies.items _ l.vaults k c.in-Some.tally v was.2 (sym was.1 ∙ c.in-Some.ensures.steps.0) inside in
    let names : vault_names (set l.vaults k new) ≡ vault_names l.vaults = map-set id l.vaults k new ∙ ap (set (vault_names l.vaults) k) (ap id kept ∙ sym (get_or-map id l.vaults k v v.id inside))
    ∙ set-get_or (vault_names l.vaults) k v.id in (
      search rules,
      next.1,
      was.2 ∙ sym names,
      one_more (c.args.tallies.items ∷ []) l.vaults k v new inside (kept ∙ ap (λ (m : Move). record (get_or l.vaults k v) { collected = m ∷ (get_or l.vaults k v).collected }) next.2) ∙ was.3,
    )
