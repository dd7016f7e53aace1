-- What the places list is what the closed table's lots have, each once.
use Rattle.xh_books.proofs.Common.{All, AreAt, IsListed, AreFlightLines, Body, Bool, Direction, Ends, FlightLine, Held, Holder, IsHeldBy, IsInFlight, IsLotAt}
use Rattle.xh_books.proofs.Common.{IsSeatOf, IsSomeAnd, Item, List, LotOf, None, Option, PlaceSeen, Process, RecordsOf, Shape, Some, Stands}
use Rattle.xh_books.proofs.Common.{TellFlight, ap, arena_of_number, arith, below_get, blocks_of, bytes_in_flight, bytes_owned, elem_slice, false, false_from_ne_true, flight_lines}
use Rattle.xh_books.proofs.Common.{get_or_from_slice_get, in_range, index_back, index_of, is_listed, is_there, item_of, length, length-map, lens_of, lot_in, map, mod-lt, never, number_back}
use Rattle.xh_books.proofs.Common.{number_of, one_holder, option_map, place_of_number, same_Some, same_place, slice_elem, slice_get, slice_get-map, subst, sum, sym, there}
use Rattle.xh_books.proofs.Common.{value_at, word_of, zip, ℕ, ◌%◌, ◌+◌, ◌<◌, ◌∙◌, ◌≡◌, ◌≤◌, IsLeft}
use Rattle.xh_books.proofs.{Audited.at_map, FlightLines.all_flying, FlightLines.are_lines, Flying.ListsAt, Flying.all_lists, Flying.at_shown, Flying.item_in, Flying.listed_at, Flying.shown_at}
use Rattle.xh_model.proofs.Keyed.{at_key}
use Rattle.xh_place.proofs.Steps.{lot_at}
use Rattle.xh_place.specs.Places.{IsBlock}

-- ---- the seat of a place, and the place of a seat

abbrev pub seats_of : List PlaceSeen → List (Held Body)
seats_of = map (λ p. p.seat)

-- what is so of all places is so of the one at an index
each_at : (P : PlaceSeen → Type 0) (ps : List PlaceSeen) (j : ℕ) (p : PlaceSeen) → All P ps → slice_get ps j ≡ Some p → P p
each_at P ps j p all at = subst P (get_or_from_slice_get ps j p p at) (all j p (below_get ps j p at))

-- the seats are those of the table
pub seats_own : (all : RecordsOf) (ps : List PlaceSeen) (k : ℕ) (x : Held Body) → All (λ p. IsSeatOf all p.seat) ps → slice_get (seats_of ps) k ≡ Some x → IsSeatOf all x
seats_own all ps k x of_ at =
    let q = at_map (λ (p : PlaceSeen). p.seat) ps k x at in subst (IsSeatOf all) q.2 (each_at (λ (p : PlaceSeen). IsSeatOf all p.seat) ps k q.0 of_ q.1)

module _ (fits : Body → ℕ → Bool) (all : RecordsOf) (ps : List PlaceSeen) (words : List ℕ) (lots : List (LotOf Body)) (ends : Ends fits all.shape (seats_of ps) words lots)
    (whole : All IsListed ps) (of_ : All (λ p. IsSeatOf all p.seat) ps) (some : 0 < all.shape.records) (small : all.shape.records ≤ 256) where
  abbrev n : ℕ
  n = all.shape.records

  abbrev seats : List (Held Body)
  seats = seats_of ps

  seat_at : (j : ℕ) (p : PlaceSeen) → slice_get ps j ≡ Some p → slice_get seats j ≡ Some p.seat
  seat_at j p at = slice_get-map (λ (q : PlaceSeen). q.seat) ps j ∙ ap (option_map (λ (q : PlaceSeen). q.seat)) at

  shape_of : (j : ℕ) (x : Held Body) → slice_get seats j ≡ Some x → x.shape ≡ all.shape
  shape_of j x at = (seats_own all ps j x of_ at).1

  -- a block of a place: its record is held by the place's process, and its lot has its length
  record Block (j r m : ℕ) : Type 0 where
    seat : Held Body
    at : slice_get seats j ≡ Some seat
    held : IsHeldBy ends.owners (index_of n r) (Some (Process seat.process))
    len : slice_get (lens_of lots) (index_of n r) ≡ Some m
    inside : r % 256 < n

  lot_of : (k : ℕ) (h : Option Holder) → IsHeldBy ends.owners k h → (l : LotOf Body) × (slice_get lots k ≡ Some l)
  lot_of k h held = let below = in_range ends.owners k h held in let t = is_there lots k (omega (arith, ends.lots_long, below)) in (t.0, elem_slice lots k t.0 t.1)

  block : (j : ℕ) (p : PlaceSeen) (r : ℕ) (x : Item) → slice_get ps j ≡ Some p → value_at r (blocks_of p) ≡ Some x → Block j r x.len
  block j p r item at h =
      let x = p.seat in let seat_is = seat_at j p at in let blocks = each_at IsListed ps j p whole at in let listed = shown_at x.lots p.list r item h in
      let t = lot_at r x.lots (blocks.lists.held r listed.0) in let l : LotOf Body = t.0 in let shape : x.shape ≡ all.shape = shape_of j x seat_is in
      let inside : r % 256 < n = subst (λ (z : Shape). r % 256 < z.records) shape (blocks.whole r l t.1).exists.1 in
      let k : ℕ = index_of n r in let number : number_of x.shape.records k ≡ r = ap (λ (z : Shape). number_of z.records k) shape ∙ number_back n r inside in
      let lot : lot_in k x ≡ Some l = ap (λ (z : ℕ). value_at z x.lots) number ∙ t.1 in
      let held : IsHeldBy ends.owners k (Some (Process x.process)) = ends.held j k x l seat_is lot in
      let there = lot_of k (Some (Process x.process)) held in let end = ends.lots_are k (Some (Process x.process)) there.0 held there.1 in
      let one : end.0 ≡ j = ends.one end.0 j end.1 x end.2 seat_is end.3 in
      let seat : end.1 ≡ x = same_Some end.1 x (sym end.2 ∙ ap (slice_get seats) one ∙ seat_is) in
      let same : there.0 ≡ l = same_Some there.0 l (sym end.4 ∙ ap (λ (z : Held Body). lot_in k z) seat ∙ lot) in
      let len : option_map (λ (z : LotOf Body). z.len) (slice_get lots k) ≡ Some item.len = rw (there.1, same) (ap (λ (z : Item). Some z.len) (sym (listed.1 ∙ ap item_in t.1))) in
      record { seat = x; at = seat_is; held = held; len = slice_get-map (λ (z : LotOf Body). z.len) lots k ∙ len; inside = inside }

  -- only one place lists it
  only : (i j r : ℕ) (x y : Item) → ListsAt ps i r x → ListsAt ps j r y → i ≡ j
  only i j r x y a b =
      let mine = block i a.0 r x a.1 a.2 in let yours = block j b.0 r y b.1 b.2 in
      let holder = one_holder ends.owners (index_of n r) (Some (Process mine.seat.process)) (Some (Process yours.seat.process)) mine.held yours.held in
      ends.one i j mine.seat yours.seat mine.at yours.at (same_place mine.seat.process yours.seat.process (ap word_of holder))

  -- all lengths are those that the places own, and those of the records in no list
  owned : sum (lens_of lots) ≡ bytes_owned ps + bytes_in_flight ps n 0 (lens_of lots)
  owned = all_lists ps n (lens_of lots) some small
      (λ j d below. (whole j d below).distinct)
      (λ j r x lists. let b = block j lists.0 r x lists.1 lists.2 in (b.len, b.inside)) only

  -- the lot of a record that a process holds is the block of one place, which lists it
  record OfProcess (k p : ℕ) (l : LotOf Body) : Type 0 where
    at : ℕ
    place : PlaceSeen
    there : slice_get ps at ≡ Some place
    process : place.seat.process ≡ p
    shape : place.seat.shape ≡ all.shape
    block : IsBlock place.seat.shape (number_of place.seat.shape.records k) l
    listed : value_at (number_of n k) (blocks_of place) ≡ Some (item_of l)

  of_process : (k p : ℕ) (l : LotOf Body) → IsHeldBy ends.owners k (Some (Process p)) → slice_get lots k ≡ Some l → OfProcess k p l
  of_process k p l held at =
      let end = ends.lots_are k (Some (Process p)) l held at in let q = at_map (λ (z : PlaceSeen). z.seat) ps end.0 end.1 end.2 in let x = q.0.seat in
      let shape : x.shape ≡ all.shape = (each_at (λ (z : PlaceSeen). IsSeatOf all z.seat) ps end.0 q.0 of_ q.1).1 in
      let blocks = each_at IsListed ps end.0 q.0 whole q.1 in let value : lot_in k x ≡ Some l = ap (lot_in k) q.2 ∙ end.4 in
      let r : ℕ = number_of x.shape.records k in let listed = blocks.lists.listed r (at_key r l x.lots value) in
      let shows : value_at r (blocks_of q.0) ≡ Some (item_of l) = at_shown x.lots q.0.list r listed ∙ ap (λ (o : Option (LotOf Body)). Some (item_in o)) value in record {
        at = end.0;
        place = q.0;
        there = q.1;
        process = ap (λ (z : Held Body). z.process) q.2 ∙ end.3;
        shape = shape;
        block = blocks.whole r l value;
        listed = subst (λ (z : Shape). value_at (number_of z.records k) (blocks_of q.0) ≡ Some (item_of l)) shape shows;
      }

  -- each lot is that of its record
  is_lot : (k : ℕ) (h : Option Holder) (l : LotOf Body) → IsHeldBy ends.owners k h → slice_get lots k ≡ Some l → IsLotAt all.shape k l
  is_lot k None l held at = (ends.lots_are k None l held at).0
  is_lot k (Some (Direction d)) l held at = (ends.lots_are k (Some (Direction d)) l held at).0
  is_lot k (Some (Process p)) l held at = let own = of_process k p l held at in subst (λ (z : Shape). IsLotAt z k l) own.shape own.block.lot

  pub lots_at : AreAt n all.shape.names lots
  lots_at k l at =
      let below = in_range lots k l (slice_elem lots k l at) in
      let there = is_there ends.owners k (omega (arith, ends.lots_long, below)) in
      let is = is_lot k there.0 l there.1 at in
      let m : k % n < n = mod-lt k some in let small : k % n < 256 = omega arith in
      (subst (λ (z : ℕ). slice_get all.shape.names z ≡ Some l.id) (arena_of_number n k small) is.1, is.0 ∙ place_of_number n k small)

  -- what a place lists has the place's process for its holder
  not_listed : (k : ℕ) (h : Option Holder) → IsHeldBy ends.owners k h → ((p : ℕ) → h ≡ Some (Process p) → ⊥) → is_listed (number_of n k) ps ≡ false
  not_listed k h held other = false_from_ne_true (is_listed (number_of n k) ps) (λ e.
      let t = listed_at ps (number_of n k) e in let own = block t.0 t.2.0 (number_of n k) t.1 t.2.1 t.2.2 in
      let theirs = subst (λ (z : ℕ). IsHeldBy ends.owners z (Some (Process own.seat.process))) (index_back n k some small) own.held in
      other own.seat.process (one_holder ends.owners k h (Some (Process own.seat.process)) held theirs))

  stands : (k m : ℕ) (h : Option Holder) (l : LotOf Body) → slice_get lots k ≡ Some l → l.len ≡ m → IsHeldBy ends.owners k h → Stands ps (number_of n k) m h
  stands k m None l at len held = (sym len ∙ (ends.lots_are k None l held at).1.0, not_listed k None held (λ p e. absurd (cc)))
  stands k m (Some (Direction d)) l at len held =
      (subst (λ (z : ℕ). 0 < z) len (ends.lots_are k (Some (Direction d)) l held at).1.0, not_listed k (Some (Direction d)) held (λ p e. never d p e))
  stands k m (Some (Process p)) l at len held =
      let own = of_process k p l held at in (
        subst (λ (z : ℕ). 0 < z) len own.block.full.0,
        (
          own.at,
          own.place,
          below_get ps own.at own.place own.there,
          get_or_from_slice_get ps own.at own.place own.place own.there,
          (own.process, subst (λ (o : Option Item). IsSomeAnd o (λ b. b.len ≡ m)) (sym own.listed) len),
        ),
      )

  quiet : (k m : ℕ) (h : Option Holder) → slice_get (lens_of lots) k ≡ Some m → IsHeldBy ends.owners k h → Stands ps (number_of n k) m h
  quiet k m h at held = let t = at_map (λ (l : LotOf Body). l.len) lots k m at in stands k m h t.0 t.1 t.2 held

  -- what is in flight was passed there last, and has its length
  passed : (k d : ℕ) → IsHeldBy ends.owners k (Some (Direction d)) → (l : LotOf Body) × (slice_get (lens_of lots) k ≡ Some l.len) × IsLeft ends.log (number_of n k) d l
  passed k d held =
      let t = lot_of k (Some (Direction d)) held in
      (t.0, slice_get-map (λ (z : LotOf Body). z.len) lots k ∙ ap (option_map (λ (z : LotOf Body). z.len)) t.1, ends.left k d t.0 held t.1)

  long : length ends.owners ≡ length (lens_of lots)
  long = sym (length-map lots (λ (l : LotOf Body). l.len) ∙ ends.lots_long)

  full_at : {p : PlaceSeen} → IsListed p → (r : ℕ) (x : Item) → value_at r (blocks_of p) ≡ Some x → 0 < x.len
  full_at {p} blocks r x at =
      let listed = shown_at p.seat.lots p.list r x at in let t = lot_at r p.seat.lots (blocks.lists.held r listed.0) in
      subst (λ (z : Item). 0 < z.len) (sym (listed.1 ∙ ap item_in t.1)) (blocks.whole r t.0 t.1).full.0

  in_flight : (lines : List FlightLine) → lines ≡ flight_lines (zip words (lens_of lots)) → IsInFlight all.shape ps (lens_of lots) lines
  in_flight lines e = record {
    log = ends.log;
    theirs = ends.theirs;
    seen = λ j d below. let at = seat_at j _ (there ps j d below) in (ends.fronts j _ at, ends.parts j _ at);
    owners = ends.owners;
    count = long;
    leads = ends.leads;
    arrives = ends.arrives;
    passed = passed;
    quiet = quiet;
    full = λ j d below. λ r x at. let blocks = whole j d below in full_at blocks r x at;
    lines_are = e ∙ ap (λ ws. flight_lines (zip ws (lens_of lots))) ends.words_are;
  }

  -- and their bytes are those of the records in no list
  are_flight_lines : AreFlightLines (bytes_in_flight ps n 0 (lens_of lots)) (flight_lines (zip (map word_of ends.owners) (lens_of lots)))
  are_flight_lines =
      let flying = all_flying ps n 0 ends.owners (lens_of lots) long (λ i j m h e at held. let z : i ≡ j = omega arith in let here = slice_elem ends.owners i h held in
      (ends.holders i h here, subst (λ (k : ℕ). Stands ps (number_of n k) m h) z (quiet i m h at here))) in
      subst (λ (z : ℕ). AreFlightLines z (flight_lines (zip (map word_of ends.owners) (lens_of lots)))) flying.1 (are_lines (zip (map word_of ends.owners) (lens_of lots)) flying.0)

  pub tell_flight : (lines : List FlightLine) → lines ≡ flight_lines (zip words (lens_of lots)) → TellFlight all.shape ps (lens_of lots) lines
  unfolding TellFlight in_flight
  tell_flight lines e =
      let is = in_flight lines e in (is, subst (λ (ls : List FlightLine). AreFlightLines (bytes_in_flight ps n 0 (lens_of lots)) ls) (sym is.lines_are) are_flight_lines, owned)
