-- What is in flight: its lines; and that there is none where no block is an end.
use Rattle.xh_serial.proofs.Common.{All, All-cons, All-nil, AllPairs, AllPairs-cons, AreFlightLines, Direction, FlightLine, IsWhole, Line, List, Machine, None}
use Rattle.xh_serial.proofs.Common.{Some, Store, [], ap, arith, carried, cases_lt, cond, end_of, serial_flight, serial_flights, flight_of, inl}
use Rattle.xh_serial.proofs.Common.{inr, ledger_of, len, length, nat_tests, nil_from_length, no_line, none-some, refl, slice_index_or, subst, suc}
use Rattle.xh_serial.proofs.Common.{sum_by, sum_by-cons, sym, times, times-cons, total, waiting, ℕ, ◌*◌, ◌+◌, ◌<◌, ◌==◌, ◌∙◌, ◌∷◌, ◌≡◌, ◌≤◌}

-- ---- the lines

-- a line of the direction d, or of a later one
abbrev IsFrom : ℕ → FlightLine → Type 0
IsFrom d l = (d ≤ l.direction) × ((l.direction < 128) × (0 < l.blocks) × (0 < l.bytes))

abbrev Rises : FlightLine → FlightLine → Type 0
Rises a b = a.direction < b.direction

-- lines from d on, of so many bytes
abbrev AreFrom : ℕ → ℕ → List FlightLine → Type 0
AreFrom d bytes lines = All (IsFrom d) lines × AllPairs Rises lines × (sum_by (λ l. l.bytes) lines ≡ bytes)

one_line : (s : Store) (d bytes : ℕ) (rs : List ℕ) (rest : List FlightLine) → ((r : ℕ) → 0 < times r rs → 0 < len s r) → d < 128 → AreFrom (d + 1) bytes rest →
    AreFrom d (total s rs + bytes) (cond (length rs == 0) rest (serial_flight s d rs ∷ rest))
one_line s d bytes [] rest full small are = (λ i x l. let a = are.0 i x l in (omega (arith, a.0), a.1), are.1, omega (arith, are.2))
one_line s d bytes (r ∷ rs) rest full small are =
    let line : FlightLine = serial_flight s d (r ∷ rs) in
    let here : cond (length (r ∷ rs) == 0) rest (line ∷ rest) ≡ line ∷ rest = grind (arith, nat_tests) in
    let first : 0 < len s r = full r (grind (arith, nat_tests, times-cons r r rs)) in
    let some : 0 < total s (r ∷ rs) = (let e = sum_by-cons (λ q. len s q) r rs in omega (arith, first, e)) in
    subst (AreFrom d (total s (r ∷ rs) + bytes)) (sym here) (
      All-cons (IsFrom d) line rest (omega arith, (small, omega arith, some)) (λ i x l. let a = are.0 i x l in (omega (arith, a.0), a.1)),
      AllPairs-cons Rises line rest (λ i x l. let a = (are.0 i x l).0 in omega (arith, a)) are.1,
      sum_by-cons (λ l. l.bytes) line rest ∙ ap (λ n. total s (r ∷ rs) + n) are.2,
    )

lines_from : (s : Store) (d : ℕ) (lines : List Line) → ((k r : ℕ) → 0 < times r (carried (slice_index_or lines k no_line).waiting.items) → 0 < len s r) → d + length lines ≤ 128 →
    AreFrom d (sum_by (λ line. total s (carried line.waiting.items)) lines) (serial_flights s d lines)
lines_from s d [] full fits = (All-nil (IsFrom d), λ i j x a b. absurd (omega (arith, b)), refl)
lines_from s d (l ∷ lines) full fits =
    subst (λ n. AreFrom d n (serial_flights s d (l ∷ lines))) (sym (sum_by-cons (λ k. total s (carried k.waiting.items)) l lines))
    (one_line s d _ (carried l.waiting.items) (serial_flights s (d + 1) lines) (full 0) (omega (arith, fits)) (lines_from s (d + 1) lines (λ k. full (suc k)) (omega (arith, fits))))

pub are_lines : (m : Machine) → IsWhole m → AreFlightLines (ledger_of m).flight (flight_of m)
unfolding ledger_of flight_of
are_lines m w =
    let are = lines_from m.store 0 m.lines (λ k r l. w.full (Direction k) r (grind (arith, nat_tests, w.once (Direction k) r))) (let e = w.channels.long in omega (arith, e)) in
    record { rising = are.1; each = λ i x l. (are.0 i x l).1; sum = sym are.2 }

-- ---- the end that a message is on its way to

module _ (m : Machine) (w : IsWhole m) where
  opened : (d : ℕ) → 0 < length (waiting m d) → d < 2 * m.opened
  opened d some = grind (arith, nat_tests, w.channels.fresh d)

  -- it is a block
  end_there : (d : ℕ) → 0 < length (waiting m d) → (e : ℕ) × (end_of m e ≡ Some d)
  end_there d some = w.reached.there d (opened d some) (grind (arith, nat_tests, w.reached.drained d))

  no_lines : (s : Store) (d : ℕ) (lines : List Line) → ((k : ℕ) → (slice_index_or lines k no_line).waiting.items ≡ []) → serial_flights s d lines ≡ []
  no_lines s d [] h = refl
  no_lines s d (l ∷ lines) h = rw (h 0) (no_lines s (d + 1) lines (λ k. h (suc k)))

  no_line_left : ((r : ℕ) → end_of m r ≡ None) → flight_of m ≡ []
  unfolding flight_of
  no_line_left none = no_lines m.store 0 m.lines (λ k. elim (cases_lt 0 (length (waiting m k))) [
    | inl some ↦ absurd (let e = end_there k some in none-some _ (sym (none e.0) ∙ e.1))
    | inr g ↦ nil_from_length (waiting m k) (omega (arith, g))
  ])

  -- where no block is an end, nothing is in flight
  pub nothing : ((r : ℕ) → end_of m r ≡ None) → (flight_of m ≡ []) × ((ledger_of m).flight ≡ 0)
  nothing none = (no_line_left none, (are_lines m w).sum ∙ ap (λ ls. sum_by (λ (l : FlightLine). l.bytes) ls) (no_line_left none))
