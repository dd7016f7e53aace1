use Rattle.xh_books.proofs.Common.{AreFlightLines, ArenaLine, ArrayVec, IsInFlight, List, PlaceLine, TellFlight, all_lengths, ap, arith, bytes_in_flight, closed_line, map, subst, sum}
use Rattle.xh_books.proofs.Common.{sum_by, sym, ℕ, ◌∙◌, ◌≡◌}
use Rattle.xh_books.proofs.closing.close_books.Goals as goal

pub ledger-ledger-requires : goal.ledger-ledger-requires
unfolding TellFlight
ledger-ledger-requires g c =
    let out = c.arena_lines-arenas.ensures.out ∙ ap (λ vs. sum (all_lengths vs)) (c.as_slice.ensures.value ∙ sym c.as_mut_slice.ensures.value) in
    let own = c.in_ok-flight.ensures.owned in let all = c.in_ok-flight.ensures.flight.2 in omega arith

pub returns : goal.returns
unfolding TellFlight
returns g c =
    let arenas = c.arena_lines-arenas.ensures in let told = c.in_ok-flight.ensures in let l = c.ledger-ledger.ensures in
    let out = arenas.out ∙ ap (λ vs. sum (all_lengths vs)) (c.as_slice.ensures.value ∙ sym c.as_mut_slice.ensures.value) in
    let lens = ap all_lengths c.as_mut_slice.ensures.value ∙ c.gather-vaults.ensures.lengths in
    let own = told.owned in let sums = told.flight.2 in let all = l.all in let a = l.owned in let b = l.out in
    let flight : c.ledger-ledger.result.flight ≡ bytes_in_flight c.args.places.items c.args.records.shape.records 0 (all_lengths c.as_mut_slice.result.now) = omega arith in record {
      arenas = ap (λ (ls : ArrayVec ArenaLine). ls.items) l.lines.0 ∙ arenas.lines ∙ ap (map closed_line) c.as_slice.ensures.value ∙ c.gather-vaults.ensures.lines;
      places = ap (λ (ls : ArrayVec PlaceLine). ls.items) l.lines.1 ∙ told.lines;
      owned = a ∙ own;
      flight = flight ∙ ap (bytes_in_flight c.args.places.items c.args.records.shape.records 0) lens;
      balanced = record {
        arenas = rw l.lines.0 arenas.balanced;
        owned = a ∙ ap (λ (ls : ArrayVec PlaceLine). sum_by (λ p. p.bytes) ls.items) (sym l.lines.1);
        out = b ∙ ap (λ (ls : ArrayVec ArenaLine). sum_by (λ a. a.out) ls.items) (sym l.lines.0);
        all = all;
      };
      in_flight = subst (λ (lens : List ℕ). IsInFlight c.args.records.shape c.args.places.items lens c.in_ok-flight.flight.items) lens told.flight.0;
      lines = subst (λ (n : ℕ). AreFlightLines n c.in_ok-flight.flight.items) (sym flight) told.flight.1;
      refused = tt;
    }
