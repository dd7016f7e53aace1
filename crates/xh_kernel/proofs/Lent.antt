-- A block's bytes in the hands of a function: the entries that tell of it.
use Rattle.xh_kernel.proofs.Common.{AccountOf, Bool, Call, Calls, Does, Err, IsStill, Leading, LendsAll, LendsAllMut, List, None, Ok}
use Rattle.xh_kernel.proofs.Common.{Option, PartsOf, PlaceSeen, Refused, Result, Some, Stays, [], ap, append-nil, arith, cond, did_starts, drop, false, length, option_map, place_of, status_at}
use Rattle.xh_kernel.proofs.Common.{refl, subst, sym, unwrap_or, ℕ, ◌++◌, ◌+◌, ◌∙◌, ◌∷◌, ◌≡◌, ◌≤◌}
use Rattle.xh_kernel.proofs.Recorded.{at_step}
use Rattle.std.proofs.Common.{nat_lt}
use Rattle.std.proofs.lemmas.Bool.Decides.{nat_tests}
use Rattle.std.proofs.lemmas.List.{drop_all, take_all}
use Rattle.std.specs.Borrow.{Bor, MutBor}
use Rattle.std.specs.Fn.{CalledAt, CalledAtMut, Mut}
use Rattle.xh_arena.specs.Views.{LotOf}
use Rattle.xh_calls.specs.declared.call.Call.TheVariants.{Read, Write}
use Rattle.xh_core.specs.Calls.{range_tests, start}
use Rattle.xh_core.specs.Refusing.{Tests, first_refusal}
use Rattle.xh_core.specs.declared.header.Header.{Header}
use Rattle.xh_core.specs.declared.refused.Refused.TheVariants.{BadRange}
use Rattle.xh_core.specs.declared.status.Status.{Status}
use Rattle.xh_model.proofs.Keyed.{put_at}
use Rattle.xh_model.specs.Keyed.{put, value_at}
use Rattle.xh_place.specs.Bodies.{Content, bytes, bytes_part, patched}
use Rattle.xh_place.specs.Calls.{HasBytes, Lends, LendsMut, Reads, Writes, bytes_in, made_of}
use Rattle.xh_place.specs.Places.{Item, found, header_of, item_of}
use Rattle.xh_place.specs.Seen.{Becomes}
use Rattle.xh_place.specs.declared.body.Body.{Body}
use Rattle.xh_records.specs.History.{StartsWith}
use Rattle.xh_records.specs.Seats.{Held}

-- the bytes of the block of a record; none of an endpoint, and none where there is no block
abbrev pub bytes_at : ℕ → Held Body → List ℕ
bytes_at r seat = unwrap_or (option_map (λ x. bytes_in x.content) (option_map item_of (value_at r seat.lots))) []

-- what is noted of the bytes, on the place as it is then: a read, or a write of what a function left; or the refusal
abbrev pub read_of : {A : Type 0} → ℕ → ℕ → PlaceSeen → Result A Refused → Call
read_of p r place (Ok a) = Read p r 0 (bytes_at r place.seat) (Ok tt)
read_of p r place (Err why) = Read p r 0 [] (Err why)

abbrev pub write_of : {A : Type 0} → ℕ → ℕ → PlaceSeen → Result A Refused → Call
write_of p r place (Ok a) = Write p r 0 (bytes_at r place.seat) (Ok tt)
write_of p r place (Err why) = Write p r 0 [] (Err why)

-- ---- the tests of a read of the whole block

bytes_are : (r : ℕ) (seat : Held Body) (xs : List ℕ) → HasBytes r seat xs → bytes_at r seat ≡ xs
bytes_are r seat xs has = ap (λ (o : Option Item). unwrap_or (option_map (λ x. bytes_in x.content) o) []) has

in_range : (n k : ℕ) → k ≤ n → nat_lt n (0 + k) ≡ false
in_range n k le = grind (arith, nat_tests)

passes : (tests : Tests) (xs : List ℕ) (n : ℕ) (o : Option Header) → o ≡ Some (header_of (made_of xs)) → n ≤ length xs → first_refusal (tests ++ range_tests o 0 0) ≡ None
    → first_refusal (tests ++ range_tests o 0 n) ≡ None
passes [] xs n o is le fine = ap (λ (z : Option Header). first_refusal (range_tests z 0 n)) is ∙ ap (λ (b : Bool). cond b (Some BadRange) None) (in_range (length xs) n le)
passes (test ∷ tests) xs n o is le fine = let more = passes tests xs n o is le in grind (arith, nat_tests, more, fine)

-- the lot of a block
lot_of : (o : Option (LotOf Body)) (x : Item) → option_map item_of o ≡ Some x → (l : LotOf Body) × (o ≡ Some l) × (item_of l ≡ x)
lot_of None x h = absurd (cc)
lot_of (Some l) x h = (l, refl, cc)

is_read : (p r : ℕ) (old new : PlaceSeen) (xs : List ℕ) → Stays old new → HasBytes r old.seat xs → first_refusal (start (status_at p old) ++ range_tests (found old.seat r) 0 0) ≡ None
    → Reads (status_at p old) r 0 xs old new (Ok tt)
is_read p r old new xs same has fine =
    let le : length xs ≤ length xs = omega arith in let l = lot_of (value_at r old.seat.lots) (made_of xs) has in
    let whole = subst (λ (c : Content). xs ≡ bytes_part 0 (length xs) c) (sym (ap (λ (x : Item). x.content) l.2)) (sym (take_all (length xs) xs le)) in record {
      same = same;
      read = (passes (start (status_at p old)) xs (length xs) (found old.seat r) (ap (option_map header_of) has) le fine, (l.0, l.1, whole));
    }

all_over : (xs ys : List ℕ) → length ys ≡ length xs → made_of ys ≡ record { len = length xs; content = patched 0 ys (bytes xs) }
all_over xs ys long =
    let none : drop (0 + length ys) xs ≡ [] = drop_all (0 + length ys) xs (omega arith) in
    let same : ys ≡ ys ++ drop (0 + length ys) xs = sym (ap (λ (z : List ℕ). ys ++ z) none ∙ append-nil ys) in (λ i. record { len = long i; content = bytes (same i) })

is_write : (p r : ℕ) (old new : PlaceSeen) (xs ys : List ℕ) (m : LotOf Body) → HasBytes r old.seat xs
    → first_refusal (start (status_at p old) ++ range_tests (found old.seat r) 0 0) ≡ None → length ys ≡ length xs → item_of m ≡ made_of ys
    → Becomes (put r m old.seat.lots) old.list [] old new → Writes (status_at p old) r 0 ys old new (Ok tt)
is_write p r old new xs ys m has fine same is did =
    let le : length ys ≤ length xs = omega (arith, same) in let l = lot_of (value_at r old.seat.lots) (made_of xs) has in record {
      written = (
        passes (start (status_at p old)) xs (length ys) (found old.seat r) (ap (option_map header_of) has) le fine,
        (l.0, m, l.1, is ∙ (all_over xs ys same ∙ ap (λ (x : Item). record x { content = patched 0 ys x.content }) (sym l.2)), did),
      );
      refused = tt;
    }

has_left : (r : ℕ) (old new : PlaceSeen) (xs ys : List ℕ) (m : LotOf Body) → HasBytes r old.seat xs → item_of m ≡ made_of ys
    → Becomes (put r m old.seat.lots) old.list [] old new → HasBytes r new.seat ys
has_left r old new xs ys m has is did =
    let l = lot_of (value_at r old.seat.lots) (made_of xs) has in
    ap (λ (p : PlaceSeen). option_map item_of (value_at r p.seat.lots)) did.0 ∙ (ap (option_map item_of) (put_at r m l.0 old.seat.lots l.1) ∙ ap Some is)

-- what the place has seen is a beginning of what it sees after a write
pub wrote_starts : (status : Status) (r at : ℕ) (xs : List ℕ) (old new : PlaceSeen) (result : Result (Unit {0}) Refused) → Writes status r at xs old new result
    → StartsWith new.seat.front old.seat.front
wrote_starts status r at xs old new (Ok a) h = did_starts _ _ _ _ h.written.1.4.1
wrote_starts status r at xs old new (Err why) h = did_starts _ _ _ _ h.refused.1

-- ---- what the notes say is what was done

module _ {F A : Type 0} (g : Mut F (Bor (List ℕ) × Unit {0}) A) (parts : PartsOf) (p r : ℕ) (f f' : F) (old new : PlaceSeen) where
  pub has_shown : (a : A) → Lends g (status_at p old) r f f' old new (Ok a) → HasBytes r new.seat (bytes_at r new.seat) × CalledAt g f (bytes_at r new.seat) a f'
  has_shown a h =
      let has : HasBytes r new.seat h.lent.1.0 = ap (λ (q : PlaceSeen). option_map item_of (value_at r q.seat.lots)) h.same.0 ∙ h.lent.1.1 in let is = sym (bytes_are r new.seat h.lent.1.0 has) in
      (subst (HasBytes r new.seat) is has, subst (λ (xs : List ℕ). CalledAt g f xs a f') is h.lent.1.2)

  pub did_read : (result : Result A Refused) → Lends g (status_at p old) r f f' old new result → Does parts (read_of p r new result) old new
  did_read (Ok a) h =
      let has : HasBytes r old.seat (bytes_at r new.seat) = ap (λ (q : PlaceSeen). option_map item_of (value_at r q.seat.lots)) (sym h.same.0) ∙ (has_shown a h).0 in
      is_read p r old new (bytes_at r new.seat) h.same has h.lent.0
  did_read (Err why) h = record { same = h.same; read = h.lent }

module _ {F A : Type 0} (g : Mut F (MutBor (List ℕ) × Unit {0}) (A × (MutBor (List ℕ) × Unit {0}))) (parts : PartsOf) (p r : ℕ) (f f' : F) (old new : PlaceSeen) where
  pub has_changed : (a : A) → LendsMut g (status_at p old) r f f' old new (Ok a)
      → (shown : List ℕ) × HasBytes r old.seat shown × HasBytes r new.seat (bytes_at r new.seat) × CalledAtMut g f shown a f' (bytes_at r new.seat)
  has_changed a h =
      let d = h.lent.1 in let now = has_left r old new d.0 d.1 d.2 d.3 d.6 d.7 in let left : d.1 ≡ bytes_at r new.seat = sym (bytes_are r new.seat d.1 now) in
      (d.0, d.3, subst (HasBytes r new.seat) left now, subst (λ (zs : List ℕ). CalledAtMut g f d.0 a f' zs) left d.4)

  pub did_write : (result : Result A Refused) → LendsMut g (status_at p old) r f f' old new result → Does parts (write_of p r new result) old new
  did_write (Ok a) h =
      let d = h.lent.1 in let left : d.1 ≡ bytes_at r new.seat = sym (bytes_are r new.seat d.1 (has_left r old new d.0 d.1 d.2 d.3 d.6 d.7)) in
      subst (λ (zs : List ℕ). Writes (status_at p old) r 0 zs old new (Ok tt)) left (is_write p r old new d.0 d.1 d.2 d.3 h.lent.0 d.5 d.6 d.7)
  did_write (Err why) h = record { written = h.lent; refused = h.refused }

  pub lent_starts : (result : Result A Refused) → LendsMut g (status_at p old) r f f' old new result → StartsWith new.seat.front old.seat.front
  lent_starts (Ok a) h = did_starts _ _ _ _ h.lent.1.7.1
  lent_starts (Err why) h = did_starts _ _ _ _ h.refused.1

-- ---- what was noted, and what is so of the bytes

module _ (parts : PartsOf) (leads : Leading) (p r : ℕ) where
  -- the call was written down on the process's place, which was `was` before it and `now` after it
  abbrev pub IsNoted : Call → PlaceSeen → PlaceSeen → AccountOf → AccountOf → Type 0
  IsNoted e was now_ = Calls leads (place_of p) e IsStill (λ old new. (old ≡ was) × (new ≡ now_))

  noted : {e : Call} {was now_ : PlaceSeen} (R : PlaceSeen → PlaceSeen → Type 0) (from to : AccountOf) → IsNoted e was now_ from to → R was now_ → Calls leads (place_of p) e IsStill R from to
  noted {e} {was} {now_} R from to n so = (n.0, n.1, n.2, at_step leads _ _ R was now_ so n.3)

  -- of the bytes that a function had
  pub lends : {F A : Type 0} (g : Mut F (Bor (List ℕ) × Unit {0}) A) (f f' : F) (old new : PlaceSeen) (from to : AccountOf) (result : Result A Refused)
      → Lends g (status_at p old) r f f' old new result → IsNoted (read_of p r new result) old new from to → LendsAll leads g p r f f' from to result
  lends g f f' old new from to (Ok a) h n =
      let s = has_shown g parts p r f f' old new a h in (bytes_at r new.seat, noted _ from to n (did_read g parts p r f f' old new (Ok a) h, s.0), s.1)
  lends g f f' old new from to (Err why) h n = (noted _ from to n (did_read g parts p r f f' old new (Err why) h), h.uncalled)

  -- of the bytes that a function had, and of what it left
  pub lends_mut : {F A : Type 0} (g : Mut F (MutBor (List ℕ) × Unit {0}) (A × (MutBor (List ℕ) × Unit {0}))) (f f' : F) (old new : PlaceSeen) (from to : AccountOf) (result : Result A Refused)
      → LendsMut g (status_at p old) r f f' old new result → IsNoted (write_of p r new result) old new from to → LendsAllMut leads g p r f f' from to result
  lends_mut g f f' old new from to (Ok a) h n =
      let s = has_changed g parts p r f f' old new a h in
      (s.0, bytes_at r new.seat, noted _ from to n (s.1, did_write g parts p r f f' old new (Ok a) h, s.2), s.3)
  lends_mut g f f' old new from to (Err why) h n = (noted _ from to n (did_write g parts p r f f' old new (Err why) h), h.uncalled)
