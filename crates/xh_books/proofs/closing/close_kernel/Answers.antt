use Rattle.xh_books.proofs.Common.{All, ArenaLine, IsInFlight, List, PLACES, PlaceLine, RecordsOf, TallyOf, all_lengths, ap, arena_lines, bytes_in_flight, length, refl, rules, subst, sym}
use Rattle.xh_books.proofs.{Common.tallies_of, Common.◌<◌, Common.◌∙◌, Common.◌≡◌, LedgerLines.lines_are_of, LedgerLines.lines_within}
use Rattle.xh_kernel.proofs.Compared.{kept_places, kept_vaults}
use Rattle.xh_books.proofs.closing.close_kernel.Goals as goal

pub compare-requires-clause-pens : goal.compare-requires-clause-pens
compare-requires-clause-pens g c = let s = c.in-Ok-settle.settled in (kept_places g.N.Names.parts s.places.items s.pens.items c.in-Ok-settle.ensures.kept).1

pub compare-requires-clause-vault_pens : goal.compare-requires-clause-vault_pens
compare-requires-clause-vault_pens g c =
    let s = c.in-Ok-settle.settled in let kept = c.in-Ok-settle.ensures.vaults in ((kept_vaults g.N.Names.parts s.vaults.items s.vault_pens.items kept.kept).1, kept.in_order)

pub close_books-requires-clause-vaults : goal.close_books-requires-clause-vaults
close_books-requires-clause-vaults g c =
    let s = c.in-Ok-settle.settled in let kept = c.in-Ok-settle.ensures.vaults in (kept.names, (kept_vaults g.N.Names.parts s.vaults.items s.vault_pens.items kept.kept).0)

pub returns-in-Ok-close_books-clause-closed : goal.returns-in-Ok-close_books-clause-closed
returns-in-Ok-close_books-clause-closed g c =
    let made = c.in-Ok in let s = c.in-Ok-settle.settled in let done = c.in-Ok-settle.ensures in let saw = c.in-Ok-compare.ensures in let closed = c.in-Ok-close_books.ensures in
    let workers = rw made.is at c.requires.accounts in
    let count : length made.accounts.items ≡ g.N.Names.parts.workers = search rules in (
      (made.answer, made.accounts, made.looks),
      made.is,
      refl,
      record {
        places = s.places.items;
        pens = s.pens.items;
        vaults = s.vaults.items;
        vault_pens = s.vault_pens.items;
        kept = done.kept;
        kept_vaults = done.vaults;
        workers = count;
        seen = saw.seen;
        arenas = closed.arenas ∙ ap (λ (ts : List (List TallyOf)). arena_lines ts 0 s.vaults.items) saw.same;
        lines = closed.places;
        owned = closed.owned;
        flight = closed.flight ∙ ap (λ (x : RecordsOf). bytes_in_flight s.places.items x.shape.records 0 (all_lengths s.vaults.items)) done.tables.0;
        balanced = closed.balanced;
        in_flight = subst (λ (x : RecordsOf). IsInFlight x.shape s.places.items (all_lengths s.vaults.items) c.in-Ok-close_books.books.flight.items) done.tables.0 closed.in_flight;
      },
    )

pub returns-in-Ok-close_books-clause-arenas : goal.returns-in-Ok-close_books-clause-arenas
returns-in-Ok-close_books-clause-arenas g c =
    let parts = g.N.Names.parts in let s = c.in-Ok-settle.settled in let kept = c.in-Ok-settle.ensures.vaults in
    let lines = lines_are_of parts (tallies_of c.in-Ok-compare.accounts.items) 0 s.vaults.items (kept_vaults parts s.vaults.items s.vault_pens.items kept.kept).0 in
    subst (λ (ls : List ArenaLine). (length ls ≡ length parts.records.shape.names) × All (λ a. a.size ≡ parts.size) ls) (sym c.in-Ok-close_books.ensures.arenas) (lines.0 ∙ ap length kept.names, lines.1)

pub returns-in-Ok-close_books-clause-places : goal.returns-in-Ok-close_books-clause-places
returns-in-Ok-close_books-clause-places g c =
    subst (λ (ls : List PlaceLine). All (λ l. l.place < PLACES) ls) (sym c.in-Ok-close_books.ensures.places) (lines_within c.in-Ok-settle.settled.places.items)
