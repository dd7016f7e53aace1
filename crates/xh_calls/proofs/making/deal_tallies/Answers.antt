use Rattle.xh_calls.proofs.Common.{fresh_tally, rules, slice_index_or, ◌+◌, ◌≡◌}
use Rattle.std.proofs.lemmas.List.{get_or-set_other}
use Rattle.std.proofs.lemmas.Grind.{get_or-set_at}
use Rattle.xh_calls.specs.declared.making.Bundle.{Bundle}
use Rattle.xh_calls.proofs.Fresh.{fresh_more}
use Rattle.xh_calls.proofs.making.deal_tallies.Goals as goal

pub loop-tally-preserved : goal.loop-tally-preserved
loop-tally-preserved c =
    let l = c.loop-tally in let was = l.invariant in let n = l.number in let bs = l.bundles in let t = c.in-Some.tally in let zs = c.args.names.now in let z = c.args.vault.now.id in
    let step = c.in-Some.ensures.steps in
    let old = slice_index_or bs n c.index-bundles-number.result in let new : Bundle = record { number = old.number; tallies = c.push.new.self } in
    let tally : t ≡ fresh_tally n z = let h = was.4 0 t in grind rules in
    let mine = was.3 n c.index-bundles-number.result in
    let pushed = c.in_ok-push.ensures.items in let more = fresh_more zs z n old.tallies.items t in (
      search rules,
      search rules,
      (λ k d below. let h = was.2 k d in let at = get_or-set_at bs n k new d in let other = get_or-set_other bs n k new d in grind (rules, tally, mine, more, pushed, h, at, other)),
      (λ k d from below. let h = was.3 k d in let other = get_or-set_other bs n k new d in grind (rules, h, other)),
      (λ k d below. let h = was.4 (k + 1) d in grind rules),
    )
