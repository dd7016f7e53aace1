use Rattle.xh_arena.proofs.Common.{arith, nat_tests, sym, ◌∙◌, subst, AreLots}
use Rattle.atomic_table.specs.Seated.{TableId}
use Rattle.xh_arena.proofs.Dealt.{drop_lots, drop_tallies, new_books}
use Rattle.xh_arena.proofs.vault.deal_shares.Goals as goal

pub lots-requires : goal.lots-requires
lots-requires g c = grind (arith, nat_tests, drop_lots)

pub tallies-requires : goal.tallies-requires
tallies-requires g c = grind (arith, nat_tests, drop_lots, drop_tallies)

pub returns-clause-books : goal.returns-clause-books
returns-clause-books g c = grind (arith, nat_tests, drop_lots, drop_tallies, new_books)

pub returns-clause-lots : goal.returns-clause-lots
returns-clause-lots g c =
    let id = c.in_ok-tallies.ensures.rest.0 ∙ c.in_ok-lots.ensures.rest.0 in
    subst (λ (z : TableId). AreLots g.B.Default.is_default z c.args.records c.in_ok-lots.lots.items) (sym id) c.in_ok-lots.ensures.made
