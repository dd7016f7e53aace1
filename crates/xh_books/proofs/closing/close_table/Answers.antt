use Rattle.xh_books.proofs.Common.{Body, Bool, Ends, Held, IsSmall, List, LotOf, PlaceSeen, Shape, Some, TellFlight, VaultOf, ap, flight_lines, length, length-map, lens_of, rules, slice_get, subst, sym, zip, ℕ}
use Rattle.xh_books.proofs.Common.{◌*◌, ◌∙◌, ◌≡◌}
use Rattle.xh_books.proofs.Owning.{lots_at, seats_of, seats_own, tell_flight}
use Rattle.xh_books.proofs.closing.close_table.Goals as goal

-- what the closed table says of seats, it says of those of the places
closed : {fits : Body → ℕ → Bool} {s : Shape} {xs : List (Held Body)} (ps : List PlaceSeen) {words : List ℕ} {lots : List (LotOf Body)} → xs ≡ seats_of ps → Ends fits s xs words lots
    → Ends fits s (seats_of ps) words lots
closed {fits} {s} {xs} ps {words} {lots} same ends = subst (λ (z : List (Held Body)). Ends fits s z words lots) same ends

pub close-requires-clause-own : goal.close-requires-clause-own
close-requires-clause-own c = λ k x at.
    seats_own c.args.records c.args.places.items k x c.requires.places.0 (subst (λ (xs : List (Held Body)). slice_get xs k ≡ Some x) c.in_ok-seats.ensures.seats at)

pub close-requires-clause-all : goal.close-requires-clause-all
close-requires-clause-all c =
    let l = ap length c.in_ok-seats.ensures.seats ∙ length-map c.args.places.items (λ (p : PlaceSeen). p.seat) in
    let count = c.requires.places.1 in search rules

pub audit-requires : goal.audit-requires
audit-requires c =
    let small : IsSmall c.args.records.shape = subst (λ r. IsSmall r.shape) c.records.view_is c.records.invariant.small in
    let each : c.from-each.result ≡ c.args.records.shape.records = c.from-each.ensures ∙ c.per_arena.ensures.0 in let ends = c.in-Ok.ensures in
    rw (each, c.as_mut_slice.ensures.value, c.requires.vaults.0) record {
      some = small.0;
      long = ends.all ∙ ap (λ n. n * c.args.records.shape.records) (ap length (sym c.requires.vaults.0) ∙ length-map c.args.vaults.now (λ (v : VaultOf). v.id));
      each = c.requires.vaults.1;
      at = lots_at _ c.args.records c.args.places.items c.in-Ok.words.items c.in-Ok.lots.items (closed c.args.places.items c.in_ok-seats.ensures.seats ends) c.in_ok-seats.ensures.whole c.requires.places.0 small.0 small.1;
    }

pub returns : goal.returns
returns c =
    let small : IsSmall c.args.records.shape = subst (λ r. IsSmall r.shape) c.records.view_is c.records.invariant.small in
    let told = tell_flight _ c.args.records c.args.places.items c.in-Ok.words.items c.in-Ok.lots.items (closed c.args.places.items c.in_ok-seats.ensures.seats c.in-Ok.ensures) c.in_ok-seats.ensures.whole
    c.requires.places.0 small.0 small.1 c.flight_lines-flight.result.items
    (c.flight_lines-flight.ensures ∙ (λ i. flight_lines (zip (c.as_slice.ensures.value i) (lens_of (c.as_slice-2.ensures.value i))))) in record {
      flight = subst (λ (lens : List ℕ). TellFlight c.args.records.shape c.args.places.items lens c.flight_lines-flight.result.items)
          (ap lens_of (sym c.as_mut_slice.ensures.value) ∙ c.audit.ensures) told;
      lines = c.in_ok-seats.ensures.lines;
      owned = c.in_ok-seats.ensures.owned;
      refused = tt;
    }
