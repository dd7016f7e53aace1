-- What the steps of wiring say of side 0 of a channel.
use Rattle.xh_calls.proofs.Common.{Becomes, Body, Closes, ClosesAgain, END_BYTES, Err, HasLow, IsClosed, IsEndAt, IsSeen, LotOf, MatchOption, None, Option, PlaceSeen, Refused}
use Rattle.xh_calls.proofs.Common.{Result, Some, Stays, [], ap, arith, end_tests, first_later, first_refusal, fits_in, found, header_of, inr, kind_of, option_map, refl, start, status_at, subst, sym, true}
use Rattle.xh_calls.proofs.Common.{ℕ, ◌∙◌, ◌∷◌, ◌≡◌, ◌≤◌}
use Rattle.std.proofs.lemmas.Bool.{eqb-true}
use Rattle.xh_model.specs.Keyed.{value_at, without}
use Rattle.xh_place.proofs.Deeds.{becomes_twice}
use Rattle.xh_place.specs.Bodies.{content_of}
use Rattle.xh_place.specs.Deeds.{passed_on}
use Rattle.xh_place.specs.Places.{item_of}
use Rattle.xh_records.specs.Showing.{IsFull}
use Rattle.xh_place.specs.Seen.{less}
use Rattle.xh_place.specs.declared.body.Body.TheVariants.{Data, End, Nothing}
use Rattle.xh_model.specs.declared.limits.TheConstants.{MAX_BUDGET}
use Rattle.xh_place.proofs.Swept.{first_bytes}

-- an endpoint is on its way, of a place that looked before
abbrev pub Passes : ℕ → ℕ → PlaceSeen → PlaceSeen → Type 0
Passes d r old new = (l : LotOf Body) × (value_at r old.seat.lots ≡ Some l) × Becomes (without r old.seat.lots) (less r old.list) (passed_on old.seat.process d ((r, item_of l) ∷ [])) old new

pub passed_since : (d r : ℕ) (old mid new : PlaceSeen) → Stays old mid → Passes d r mid new → Passes d r old new
passed_since d r old mid new same h =
    let l = h.0 in let log = passed_on old.seat.process d ((r, item_of l) ∷ []) in (
      l,
      subst (λ (q : PlaceSeen). value_at r q.seat.lots ≡ Some l) same.0 h.1,
      becomes_twice [] log old.seat.lots (without r old.seat.lots) old.list (less r old.list) old mid new same
          (subst (λ (q : PlaceSeen). Becomes (without r q.seat.lots) (less r q.list) (passed_on q.seat.process d ((r, item_of l) ∷ [])) mid new) same.0 h.2),
    )

is_end : (l : LotOf Body) (channel side : ℕ) → IsEndAt (content_of l.body) channel side → fits_in l.body l.len ≡ true
    → (first_refusal (end_tests (Some (header_of (item_of l)))) ≡ None) × (l.len ≡ END_BYTES)
is_end l channel side at fits = go l.body at fits where
  go : (b : Body) → IsEndAt (content_of b) channel side → fits_in b l.len ≡ true
      → (first_refusal (end_tests (Some (record { len = l.len; kind = kind_of (content_of b) }))) ≡ None) × (l.len ≡ END_BYTES)
  go Nothing at fits = absurd at
  go (Data v) at fits = absurd at
  go (End e) at fits = (refl, eqb-true l.len END_BYTES fits)

-- side 0 was closed
pub closes_again : (p r channel : ℕ) (back : ℕ → Type 0) (old new : PlaceSeen) (result : Result ℕ Refused) → first_refusal (start (status_at p old)) ≡ None → ((k : ℕ) (l : LotOf Body) → value_at k old.seat.lots ≡ Some l → IsFull fits_in l) → HasLow channel r old
    → (n : ℕ) × Closes (status_at p old) r n old new result × back n → (n : ℕ) × ClosesAgain p channel r old new n × back n
closes_again p r channel back old new result none whole low h =
    let l = low.0 in let n = h.0 in let end = is_end l channel 0 low.2 (whole r l low.1).1 in
    let tests : first_refusal (end_tests (found old.seat r)) ≡ None = ap (λ (o : Option (LotOf Body)). first_refusal (end_tests (option_map header_of (option_map item_of o)))) low.1 ∙ end.0 in
    let d : IsClosed r old new n result = subst (λ (o : Option Refused). MatchOption o (IsClosed r old new n result) (λ refused. (result ≡ Err refused) × (Stays old new × (n ≡ 0))))
    (first_later (start (status_at p old)) (end_tests (found old.seat r)) none ∙ tests) h.1 in
    let same : Some d.0 ≡ Some l = sym d.3 ∙ low.1 in let one : d.0 ≡ l = cc in
    let some : d.0.len ≤ n = first_bytes (IsSeen old.seat new.seat) old.seat.process MAX_BUDGET r (item_of d.0) d.1 n d.2 (omega arith) d.4 in
    let enough : END_BYTES ≤ n = omega (arith, end.1, some, ap (λ (z : LotOf Body). z.len) one) in (n, inr (none, low, (result, d, enough)), h.2)
