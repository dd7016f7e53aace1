-- The two ends of each channel with a contract stay in step, whichever of them puts, takes or is drained, and the messages that wait have consecutive numbers.
use Rattle.xh_serial.proofs.Common.{AreNumbered, HasOrderlyLines, AreWired, Bool, HaveEnds, InStep, IsNumbered, IsValid, Line, List, Machine, Message, None, Option, Row, Some, [], allowed, ap}
use Rattle.xh_serial.proofs.Common.{arith, at_set, cases_Bool, cases_Option, cases_eq, contract_of, drain_step, drained_state, eq-eqb, front_step, get_or-set_other, get_or-set_same, inl, inr}
use Rattle.xh_serial.proofs.Common.{length, line, nat_tests, no_line, none-some, peer, put_line, refl, same_Some, shut_in, shut_line, slice_index_or, slice_set, subst, sym, tags_of, taken_line}
use Rattle.xh_serial.proofs.Common.{cond, true, walk, ℕ, ◌%◌, ◌*◌, ◌++◌, ◌+◌, ◌-◌, ◌/◌, ◌<◌, ◌==◌, ◌∙◌, ◌∷◌, ◌≡◌, ◌≢◌}
use Rattle.xh_serial.proofs.Machines.{peer_half, peer_ne}

-- two lines whose ends are in step
abbrev pub ArePaired : List Row → ℕ → Line → Line → Type 0
ArePaired rows side x y = InStep rows side x.state (tags_of x.waiting.items) y.state (tags_of y.waiting.items)

-- the end that d leads to, and its peer, are in step
abbrev pub IsPair : List Row → List Line → ℕ → Type 0
IsPair rows lines d = ArePaired rows (d % 2) (slice_index_or lines d no_line) (slice_index_or lines (peer d) no_line)

pub same_lines : (rows : List Row) (side : ℕ) (x x' y y' : Line) → x ≡ x' → y ≡ y' → ArePaired rows side x y → ArePaired rows side x' y'
same_lines rows side x x' y y' e f step = subst (λ (z : Line). ArePaired rows side x' z) f (subst (λ (z : Line). ArePaired rows side z y) e step)

-- ---- the same from the other end

swapped : (rows : List Row) (s t : ℕ) (x y : Line) → 1 - s ≡ t → 1 - t ≡ s → ArePaired rows s x y → ArePaired rows t y x
swapped rows s t x y a b step = (rw (b, ← a) (sym step.0), elim step.1 [ inl none ↦ inr none | inr none ↦ inl none ])

swap_pair : (rows : List Row) (lines : List Line) (d : ℕ) → IsPair rows lines d → IsPair rows lines (peer d)
swap_pair rows lines d step = grind (arith, nat_tests, swapped)

-- a turn of one channel leaves the others in step
pub wired_pair : (contracts : List (Option (List Row))) (lines new : List Line) (d : ℕ) → AreWired contracts lines →
    ((rows : List Row) → contract_of contracts d ≡ Some rows → IsValid rows → IsPair rows lines d → IsPair rows new d) →
    ((k : ℕ) → k / 2 ≢ d / 2 → slice_index_or new k no_line ≡ slice_index_or lines k no_line) → AreWired contracts new
wired_pair contracts lines new d wired turn others k rows is = let was = wired k rows is in
    elim (cases_eq (k / 2) (d / 2)) [
      | inl e ↦ (
          let here : contract_of contracts d ≡ Some rows = ap (λ (i : ℕ). slice_index_or contracts i None) (sym e) ∙ is in
          let now : IsPair rows new d = turn rows here was.0 (wired d rows here).1 in
          (was.0, elim (cases_eq k d) [ inl s ↦ subst (IsPair rows new) (sym s) now | inr n ↦ subst (IsPair rows new) (sym ((grind (arith, nat_tests)))) (swap_pair rows new d now) ]))
      | inr n ↦ (
        was.0,
        same_lines rows (k % 2) (slice_index_or lines k no_line) (slice_index_or new k no_line) (slice_index_or lines (peer k) no_line) (slice_index_or new (peer k) no_line)
            (sym (others k n)) (sym (others (peer k) (λ s. n (sym (peer_half k) ∙ s)))) was.1,
      )
    ]

-- ---- an end is drained

drained_walk : (rows : List Row) (side state : ℕ) (tags : List ℕ) (end : ℕ) → walk rows side state tags ≡ Some end → drained_state (Some rows) side state tags ≡ end
drained_walk rows side state [] end h = same_Some _ _ h
drained_walk rows side state (tag ∷ tags) end h = elim (cases_Option (allowed rows state tag side)) [
  | inl none ↦ absurd (none-some _ (rw none at h))
  | inr some ↦ rw some.1 (drained_walk rows side some.0 tags end (rw some.1 at h))
]

shut_pair : (rows : List Row) (lines new : List Line) (d : ℕ) → slice_index_or new d no_line ≡ shut_line (Some rows) (1 - d % 2) (slice_index_or lines d no_line) →
    slice_index_or new (peer d) no_line ≡ slice_index_or lines (peer d) no_line →
    IsPair rows lines d → IsPair rows new d
shut_pair rows lines new d lo hi pair = grind (arith, nat_tests, drain_step, drained_walk, same_lines)

pub half_apart : (d k : ℕ) → k / 2 ≢ d / 2 → k ≢ d
half_apart d k n e = n (ap (λ (x : ℕ). x / 2) e)

pub shut_wired : (contracts : List (Option (List Row))) (lines : List Line) (o : Option ℕ) → ((d : ℕ) → o ≡ Some d → d < length lines) → AreWired contracts lines →
    AreWired contracts (shut_in contracts lines o)
shut_wired contracts lines None l w = w
shut_wired contracts lines (Some d) l w =
    let new : List Line = shut_in contracts lines (Some d) in
    wired_pair contracts lines new d w
    (λ rows is valid pair. shut_pair rows lines new d
    (get_or-set_same lines d _ no_line (l d refl) ∙ ap (λ (o : Option (List Row)). shut_line o (1 - d % 2) (slice_index_or lines d no_line)) is)
    (get_or-set_other lines d (peer d) _ no_line (peer_ne d)) pair)
    (λ k n. get_or-set_other lines d k _ no_line (half_apart d k n))

-- ---- what a reader of the contract wants to know

pub wired_orderly : (m : Machine) → AreWired m.contracts m.lines → HasOrderlyLines m
wired_orderly m wired c rows is =
    let low : Line = line m.lines (2 * c) in
    let high : Line = line m.lines (2 * c + 1) in
    let half : 2 * c / 2 ≡ c = omega arith in
    let side : 2 * c % 2 ≡ 0 = omega arith in
    let next : peer (2 * c) ≡ 2 * c + 1 = rw (eq-eqb (2 * c % 2) 0 side) refl in
    let there : contract_of m.contracts (2 * c) ≡ Some rows = ap (λ (k : ℕ). slice_index_or m.contracts k None) half ∙ is in
    let here : ArePaired rows 0 low (line m.lines (peer (2 * c))) = subst (λ (s : ℕ). ArePaired rows s low (line m.lines (peer (2 * c)))) side (wired (2 * c) rows there).1 in
    let step : ArePaired rows 0 low high = subst (λ (k : ℕ). ArePaired rows 0 low (line m.lines k)) next here in (
      front_step rows 0 low.state high.state (tags_of low.waiting.items) (tags_of high.waiting.items) step,
      front_step rows 1 high.state low.state (tags_of high.waiting.items) (tags_of low.waiting.items) (swapped rows 0 1 low high refl refl step),
      step.1,
    )

-- so it is of each of the lines
abbrev pub AllNumbered : List Line → Type 0
AllNumbered lines = (d : ℕ) → IsNumbered (slice_index_or lines d no_line)

put_back : (first last : ℕ) (messages : List Message) (message : Message) → message.no ≡ last + 1 → AreNumbered first messages last → AreNumbered first (messages ++ message ∷ []) (last + 1)
put_back first last [] message is h = (is ∙ sym h, omega (arith, h))
put_back first last (m ∷ messages) message is h = (h.0, put_back (first + 1) last messages message is h.1)

pub put_numbered : (tag : ℕ) (bs : List ℕ) (l : Line) → IsNumbered l → IsNumbered (put_line tag bs l)
put_numbered tag bs l h = (h.0, put_back h.0 l.put l.waiting.items _ refl h.1)

taken_front : (contract : Option (List Row)) (side tag state put first : ℕ) (shut : Bool) (messages : List Message) → 0 < length messages → AreNumbered first messages put →
    IsNumbered (taken_line contract side tag (record { shut = shut; state = state; put = put; waiting = record { items = messages } }))
taken_front contract side tag state put first shut [] some h = absurd (omega (arith, some))
taken_front contract side tag state put first shut (m ∷ messages) some h = (first + 1, h.1)

pub taken_numbered : (contract : Option (List Row)) (side tag : ℕ) (l : Line) → 0 < length l.waiting.items → IsNumbered l → IsNumbered (taken_line contract side tag l)
taken_numbered contract side tag l some h = taken_front contract side tag l.state l.put h.0 l.shut l.waiting.items some h.1

-- one line is another, whose messages have their numbers too
pub set_numbered : (lines : List Line) (d : ℕ) (l : Line) → d < length lines → AllNumbered lines → IsNumbered l → AllNumbered (slice_set lines d l)
set_numbered lines d l there all h k = rw (at_set lines d k l no_line there) (elim (cases_Bool (k == d)) [ inl y ↦ rw y h | inr n ↦ rw n (all k) ])

pub shut_numbered : (contracts : List (Option (List Row))) (lines : List Line) (o : Option ℕ) → ((d : ℕ) → o ≡ Some d → d < length lines) → AllNumbered lines → AllNumbered (shut_in contracts lines o)
shut_numbered contracts lines None there all = all
shut_numbered contracts lines (Some d) there all = set_numbered lines d _ (there d refl) all ((slice_index_or lines d no_line).put + 1, refl)

-- ---- a direction has its end, or is shut and holds nothing

-- one line is another, shut as before
pub set_reached : (end : ℕ → Option ℕ) (lines : List Line) (opened d : ℕ) (l : Line) → d < length lines → l.shut ≡ (slice_index_or lines d no_line).shut → (l.shut ≡ true → l.waiting.items ≡ []) →
    HaveEnds end lines opened → HaveEnds end (slice_set lines d l) opened
set_reached end lines opened d l within same empty h = grind (arith, nat_tests, at_set)

-- an end is swept: its direction is shut and drained
pub shut_reached : (end now : ℕ → Option ℕ) (contracts : List (Option (List Row))) (lines : List Line) (opened r : ℕ) (o : Option ℕ) → ((q : ℕ) → now q ≡ cond (q == r) None (end q)) →
    end r ≡ o → ((d : ℕ) → o ≡ Some d → d < length lines) → HaveEnds end lines opened → HaveEnds now (shut_in contracts lines o) opened
shut_reached end now contracts lines opened r o left is l h = record {
  drained = λ k. grind (arith, nat_tests, at_set, h.drained k);
  there = λ k below not_shut. let e = h.there k below (grind (arith, nat_tests, at_set)) in (e.0, grind (arith, nat_tests, at_set, left e.0, e.1, is));
}
