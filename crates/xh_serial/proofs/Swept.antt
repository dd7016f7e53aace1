-- What sweeping one entry leaves: a whole machine.
use Rattle.xh_serial.proofs.Common.{place, Bool, Direction, GiveBack, Holder, IsEndRecord, IsLawful, IsWhole, Line, List, Machine, None, Option, Place, Process, Row, Some, Store, Vacate, []}
use Rattle.xh_serial.proofs.Common.{accept_from, after, all_out, ap, arena_there, arith, arriving, at_set, blank, blocks, body, buffer, cases_Bool, change, cond, count_append, done}
use Rattle.xh_serial.proofs.Common.{end_of, eq-eqb, false, false≢true, get_or-le-sum_by, get_or-set_other, holds, inl, inr, is_some, is_there, len, len_back, len_back_else, length, length-append}
use Rattle.xh_serial.proofs.Common.{length-set, line, listed, lt-ltb, nat_lt, nat_tests, ne_eqb, no_line, on_way, owner, refl, relisted, remove, same_direction, same_known, same_len, same_process}
use Rattle.xh_serial.proofs.Common.{shut_in, slice_index_or, sum_by-remove, sweep, sweep_one, sym, times, true, way_in, ℕ, ◌*◌, ◌++◌, ◌+◌, ◌-◌, ◌/◌, ◌<◌, ◌==◌, ◌∙◌, ◌≡◌, ◌≢◌, ◌≤◌, ◌⊎◌}
use Rattle.xh_serial.proofs.Accepting.{Went, accepted_all}
use Rattle.xh_model.specs.Arena.{ArenaState}
use Rattle.std.proofs.lemmas.List.{get_or_append_left}
use Rattle.xh_serial.proofs.Machines.{busy_place, current_blocks, current_generation, current_range, list_set, lists_current, place_there, places_set, relisted_again, relisted_list, way_else}
use Rattle.xh_serial.proofs.Machines.{way_here}
use Rattle.xh_serial.proofs.Room.{room}
use Rattle.xh_model.proofs.Lawful.{back_bytes, back_lawful}
use Rattle.xh_serial.proofs.Wired.{shut_numbered, shut_reached, shut_wired}

-- the entry at a place of the list
abbrev pub entry : Machine → ℕ → ℕ → ℕ
entry m p from = slice_index_or (blocks m p) from 0

-- who holds q once r is swept
abbrev pub new_owner : ℕ → ℕ → List ℕ → ℕ → Option Holder → Option Holder
new_owner p r came q o = cond (q == r) None (cond (nat_lt 0 (times q came)) (Some (Process p)) o)

pub record SweptOne (p from r : ℕ) (m n : Machine) : Type 0 where
  pub owners : (q : ℕ) → owner n.store q ≡ new_owner p r (arriving m r) q (owner m.store q)
  pub many : length n.store.owners ≡ length m.store.owners
  pub arenas : n.store.arenas ≡ (change (GiveBack p r) m.store).arenas

-- an entry of a list is held by its process
pub entry_held : (m : Machine) (p from : ℕ) → IsWhole m → from < length (blocks m p) → holds m.store (Process p) (entry m p from) ≡ true
entry_held m p from w l = grind (arith, nat_tests, get_or-le-sum_by)

pub entry_there : (m : Machine) (p from : ℕ) → IsWhole m → from < length (blocks m p) → entry m p from < length m.store.owners
entry_there m p from w l = is_there m.store (Process p) (entry m p from) (entry_held m p from w l)

-- the list with what came to the entry, and without the entry
pub entry_left : (m : Machine) (p from : ℕ) (came : List ℕ) (ps qs : List Place) → IsWhole m → from < length (blocks m p) → came ≡ arriving m (entry m p from) →
    ps ≡ relisted p ((place m.places p).blocks.items ++ came) m.places → qs ≡ relisted p (remove (place ps p).blocks.items from) ps →
    qs ≡ relisted p (remove (blocks m p ++ arriving m (entry m p from)) from) m.places
entry_left m p from came ps qs w l e add cut = grind (arith, nat_tests, place_there, current_blocks, lists_current, relisted_again, relisted_list)

-- the list has room for what came
pub entry_room : (m : Machine) (p from : ℕ) (o : Option ℕ) → IsWhole m → from < length (blocks m p) → length (place m.places p).blocks.items + length (way_in m.lines o) ≤ 2048
entry_room m p from o w l = grind (arith, nat_tests, current_blocks, lists_current, room)

abbrev accepted_store : ℕ → ℕ → Machine → Store
accepted_store p r m = accept_from p (end_of m r) (arriving m r) m.store

came_from : (m : Machine) (p : ℕ) (e : Option ℕ) → IsWhole m → p < 65504 → Went (Process p) (way_in m.lines e) m.store (accept_from p e (way_in m.lines e) m.store)
came_from m p None w l = record { owners = λ q. refl; many = refl; arenas = refl }
came_from m p (Some d) w l = accepted_all p d (on_way m d) m.store l (λ q. let e = w.once (Direction d) q in omega arith)

-- what comes to a record is held by a direction
none_of_own : (m : Machine) (p r : ℕ) (e : Option ℕ) → IsWhole m → holds m.store (Process p) r ≡ true → times r (way_in m.lines e) ≡ 0
none_of_own m p r None w h = refl
none_of_own m p r (Some d) w h = grind (arith, nat_tests, w.once (Direction d) r)

given_up : (p r : ℕ) (t : Store) → r / 256 < length t.arenas → owner t r ≡ Some (Process p) → 0 < len t r → after (Vacate p r) (after (GiveBack p r) t) ≡ change (Vacate p r) (change (GiveBack p r) t)
given_up p r t there o l =
    let h : holds t (Process p) r ≡ true = rw o (eq-eqb p p refl) in
    let one : after (GiveBack p r) t ≡ change (GiveBack p r) t = done (GiveBack p r) t (rw (h, lt-ltb 0 (len t r) l) refl) in
    let z : len (change (GiveBack p r) t) r ≡ 0 = len_back t p r there in
    rw one (done (Vacate p r) (change (GiveBack p r) t) (rw (h, z) refl))

module _ (m : Machine) (p from : ℕ) (w : IsWhole m) (l : from < length (blocks m p)) where
  abbrev r : ℕ
  r = entry m p from

  abbrev t : Store
  t = accepted_store p r m

  held : holds m.store (Process p) r ≡ true
  held = entry_held m p from w l

  accepted : Went (Process p) (arriving m r) m.store t
  accepted = came_from m p (end_of m r) w (current_range m p w (lists_current m p from l))

  -- what it accepts changes no length
  pub entry_len : len t r ≡ len m.store r
  entry_len = same_len m.store t r accepted.arenas

  own : owner t r ≡ Some (Process p)
  own = accepted.owners r ∙ rw (none_of_own m p r (end_of m r) w held) (same_process _ _ held)

  reclaimed : after (Vacate p r) (after (GiveBack p r) t) ≡ change (Vacate p r) (change (GiveBack p r) t)
  reclaimed = given_up p r t (rw accepted.arenas (arena_there m.store (Process p) r w.store held)) own (rw (same_len m.store t r accepted.arenas) (w.full (Process p) r held))

  gone : (q : ℕ) → owner (sweep_one p from m).store q ≡ cond (q == r) None (owner t q)
  unfolding sweep_one
  gone q = rw reclaimed (at_set t.owners r q None None (rw accepted.many (is_there m.store (Process p) r held)))

  pub swept_one : SweptOne p from r m (sweep_one p from m)
  unfolding sweep_one
  swept_one = grind (arith, nat_tests, gone, accepted, reclaimed, length-set)

-- ---- lists and directions

abbrev came : ℕ → ℕ → Machine → List ℕ
came p from m = arriving m (entry m p from)

blocks_now : (m : Machine) (p from k : ℕ) → IsWhole m → from < length (blocks m p) → blocks (sweep_one p from m) k ≡ cond (k == p) (remove (blocks m p ++ came p from m) from) (blocks m k)
unfolding sweep_one
blocks_now m p from k w l = list_set m.places p _ (place_there m p w) (current_generation m p (lists_current m p from l)) k

pub blocks_here : (m : Machine) (p from : ℕ) → IsWhole m → from < length (blocks m p) → blocks (sweep_one p from m) p ≡ remove (blocks m p ++ came p from m) from
blocks_here m p from w l = blocks_now m p from p w l ∙ rw (eq-eqb p p refl) refl

abbrev is_at : ℕ → Option ℕ → Bool
is_at e None = false
is_at e (Some d) = e == d

shut_at : (m : Machine) (o : Option ℕ) (e : ℕ) → ((d : ℕ) → o ≡ Some d → d < length m.lines) → way_in (shut_in m.contracts m.lines o) (Some e) ≡ cond (is_at e o) [] (on_way m e)
shut_at m o e l = grind (arith, nat_tests, eq-eqb, way_here, ne_eqb, way_else)

pub end_range : (m : Machine) (r : ℕ) → IsWhole m → (d : ℕ) → end_of m r ≡ Some d → d < length m.lines
end_range m r w d e = let h = (w.ends r d e).opened in let o = w.channels.few in let n = w.channels.long in omega (arith, h, o, n)

pub way : (m : Machine) (p from e : ℕ) → IsWhole m → on_way (sweep_one p from m) e ≡ cond (is_at e (end_of m (entry m p from))) [] (on_way m e)
unfolding sweep_one
way m p from e w = shut_at m (end_of m (entry m p from)) e (end_range m (entry m p from) w)

body_now : (m : Machine) (p from q : ℕ) → IsWhole m → from < length (blocks m p) → body (sweep_one p from m).bodies q ≡ cond (q == entry m p from) (blank None) (body m.bodies q)
unfolding sweep_one
body_now m p from q w l = at_set m.bodies (entry m p from) q (blank None) (blank None) (rw w.bodies (entry_there m p from w l))

pub ends_now : (m : Machine) (p from q : ℕ) → IsWhole m → from < length (blocks m p) → end_of (sweep_one p from m) q ≡ cond (q == entry m p from) None (end_of m q)
ends_now m p from q w l = grind (arith, nat_tests, body_now m p from q w l)

arriving_by : (m : Machine) (p from q : ℕ) (e : Option ℕ) → IsWhole m → q ≢ entry m p from → end_of m q ≡ e → way_in (sweep_one p from m).lines e ≡ way_in m.lines e
arriving_by m p from q e w n eq = grind (arith, nat_tests, way)

pub arriving_else : (m : Machine) (p from q : ℕ) → IsWhole m → from < length (blocks m p) → q ≢ entry m p from → arriving (sweep_one p from m) q ≡ arriving m q
arriving_else m p from q w l n = grind (arith, nat_tests, ends_now, ne_eqb, arriving_by)

pub arriving_here : (m : Machine) (p from : ℕ) → IsWhole m → from < length (blocks m p) → arriving (sweep_one p from m) (entry m p from) ≡ []
arriving_here m p from w l = grind (arith, nat_tests, gone, ends_now, eq-eqb)

-- ---- each record once

times_removed : (q k : ℕ) (rs cs : List ℕ) → k < length rs → times q (remove (rs ++ cs) k) + cond (slice_index_or rs k 0 == q) 1 0 ≡ times q (rs ++ cs)
times_removed q k rs cs l = grind (arith, nat_tests, length-append, sum_by-remove, get_or_append_left)

-- a record that came is held by the direction that it came from
pub came_held : (m : Machine) (q : ℕ) (o : Option ℕ) → IsWhole m → nat_lt 0 (times q (way_in m.lines o)) ≡ true → (d : ℕ) × (o ≡ Some d) × (owner m.store q ≡ Some (Direction d))
came_held m q None w h = absurd (false≢true h)
came_held m q (Some d) w h = (d, refl, same_direction _ _ (grind (arith, nat_tests, w.once (Direction d) q)))

came_most : (m : Machine) (q : ℕ) (o : Option ℕ) → IsWhole m → times q (way_in m.lines o) ≤ 1
came_most m q None w = omega arith
came_most m q (Some d) w = grind (arith, nat_tests, w.once (Direction d) q)

-- what did not come is on its way where it was
swept_way : (m : Machine) (p from e q : ℕ) → IsWhole m → from < length (blocks m p) → nat_lt 0 (times q (came p from m)) ≡ false → (o : Option ℕ) → end_of m (entry m p from) ≡ o →
    times q (on_way (sweep_one p from m) e) ≡ cond (holds (sweep_one p from m).store (Direction e) q) 1 0
swept_way m p from e q w l f None is = rw (way m p from e w, is) (grind (arith, nat_tests, (swept_one m p from w l).owners q, w.once (Direction e) q, entry_held m p from w l, f))
swept_way m p from e q w l f (Some d) is = rw (way m p from e w, is) (grind (arith, nat_tests, (swept_one m p from w l).owners q, w.once (Direction e) q, entry_held m p from w l, f, is))

pub swept_once : (m : Machine) (p from : ℕ) → IsWhole m → from < length (blocks m p) → (h : Holder) (q : ℕ) → times q (listed (sweep_one p from m) h) ≡ cond (holds (sweep_one p from m).store h q) 1 0
swept_once m p from w l (Process k) q =
    let now = blocks_now m p from k w l in let left = times_removed q from (blocks m p) (came p from m) l in let all = count_append q (blocks m p) (came p from m) in
    let own = (swept_one m p from w l).owners q in let once = w.once (Process k) q in let held = entry_held m p from w l in elim (cases_Bool (nat_lt 0 (times q (came p from m)))) [
      | inl y ↦ (let c = came_held m q (end_of m (entry m p from)) w y in grind (arith, nat_tests, came_most m q (end_of m (entry m p from)) w, c.2))
      | inr f ↦ grind (arith, nat_tests)
    ]
swept_once m p from w l (Direction e) q = elim (cases_Bool (nat_lt 0 (times q (came p from m)))) [
  | inl y ↦ (let c = came_held m q (end_of m (entry m p from)) w y in
      grind (arith, nat_tests, way m p from e w, (swept_one m p from w l).owners q, w.once (Direction e) q, c.1, c.2))
  | inr f ↦ swept_way m p from e q w l f (end_of m (entry m p from)) refl
]

-- ---- the machine after it

-- what becomes of another record: p has it now and a direction had it, or its holder is the same
pub other_owner : (m : Machine) (p from q : ℕ) → IsWhole m → from < length (blocks m p) → q ≢ entry m p from →
    ((d : ℕ) × (owner m.store q ≡ Some (Direction d)) × (owner (sweep_one p from m).store q ≡ Some (Process p)) × (nat_lt 0 (times q (arriving m (entry m p from))) ≡ true))
    ⊎ ((owner (sweep_one p from m).store q ≡ owner m.store q) × (nat_lt 0 (times q (arriving m (entry m p from))) ≡ false))
other_owner m p from q w l n =
    let r : ℕ = entry m p from in
    let o : owner (sweep_one p from m).store q ≡ new_owner p r (arriving m r) q (owner m.store q) = (swept_one m p from w l).owners q in
    elim (cases_Bool (nat_lt 0 (times q (arriving m r)))) [
      | inl y ↦ (let c = came_held m q (end_of m r) w y in inl (c.0, c.2, o ∙ rw (ne_eqb q r n, y) refl, y))
      | inr f ↦ inr (o ∙ rw (ne_eqb q r n, f) refl, f)
    ]

pub gone_owner : (m : Machine) (p from q : ℕ) → IsWhole m → from < length (blocks m p) → q ≡ entry m p from → owner (sweep_one p from m).store q ≡ None
gone_owner m p from q w l e = (swept_one m p from w l).owners q ∙ rw (eq-eqb q (entry m p from) e) refl

-- the store after the swept record is given back
abbrev back : ℕ → ℕ → Machine → Store
back p from m = change (GiveBack p (entry m p from)) m.store

len_now : (m : Machine) (p from q : ℕ) → IsWhole m → from < length (blocks m p) → len (sweep_one p from m).store q ≡ cond (q == entry m p from) 0 (len m.store q)
len_now m p from q w l =
    let there : entry m p from / 256 < length m.store.arenas = arena_there m.store (Process p) (entry m p from) w.store (entry_held m p from w l) in
    same_len (back p from m) (sweep_one p from m).store q (swept_one m p from w l).arenas
    ∙ grind (arith, nat_tests, len_back m.store p (entry m p from) there, len_back_else m.store p (entry m p from) q there)

full_now : (m : Machine) (p from : ℕ) (h : Holder) (q : ℕ) → IsWhole m → from < length (blocks m p) → holds (sweep_one p from m).store h q ≡ true → 0 < len (sweep_one p from m).store q
full_now m p from h q w l y =
    let came : nat_lt 0 (times q (arriving m (entry m p from))) ≡ true → 0 < len m.store q =
    λ t. (let c = came_held m q (end_of m (entry m p from)) w t in w.full (Direction c.0) q (rw (c.2) (eq-eqb c.0 c.0 refl))) in
    grind (arith, nat_tests, (swept_one m p from w l).owners q, len_now m p from q w l, w.full h q)

fresh_shut : (contracts : List (Option (List Row))) (lines : List Line) (o : Option ℕ) (k : ℕ) → ((d : ℕ) → o ≡ Some d → k ≢ d) →
    slice_index_or (shut_in contracts lines o) k no_line ≡ slice_index_or lines k no_line
fresh_shut contracts lines o k n = grind (arith, nat_tests, get_or-set_other)

fresh_now : (m : Machine) (p from k : ℕ) → IsWhole m → 2 * m.opened ≤ k → line (sweep_one p from m).lines k ≡ no_line
unfolding sweep_one
fresh_now m p from k w h = grind (arith, nat_tests, fresh_shut)

bytes_now : (m : Machine) (p from q : ℕ) → IsWhole m → from < length (blocks m p) →
    length (buffer (sweep_one p from m) q) ≡ cond (is_some (end_of (sweep_one p from m) q)) 0 (len (sweep_one p from m).store q)
bytes_now m p from q w l = grind (arith, nat_tests, body_now m p from q w l, len_now m p from q w l, w.bytes q)

lawful_now : (m : Machine) (p from : ℕ) → IsWhole m → from < length (blocks m p) → IsLawful (sweep_one p from m).store
lawful_now m p from w l =
    let r : ℕ = entry m p from in
    let s : SweptOne p from r m (sweep_one p from m) = swept_one m p from w l in
    let held : holds m.store (Process p) r ≡ true = entry_held m p from w l in
    let b : IsLawful (back p from m) = back_lawful m.store p r w.store (rw (held, lt-ltb 0 (len m.store r) (w.full (Process p) r held)) refl) in
    grind (arith, nat_tests, gone_owner, len_now, eq-eqb, other_owner, current_range, lists_current, ne_eqb, same_known)

end_now : (m : Machine) (p from r d : ℕ) → IsWhole m → from < length (blocks m p) → end_of (sweep_one p from m) r ≡ Some d → IsEndRecord (sweep_one p from m) r d
unfolding sweep_one
end_now m p from r d w l e =
    let before : (q : ℕ) → end_of (sweep_one p from m) q ≡ Some d → end_of m q ≡ Some d = λ q f. grind (arith, nat_tests, ends_now m p from q w l) in
    let was = w.ends r d (before r e) in record {
      held = grind (arith, nat_tests, (swept_one m p from w l).owners r, ends_now m p from r w l, was.held);
      opened = was.opened;
      alone = λ q f. was.alone q (before q f);
    }

pub whole_one : (m : Machine) (p from : ℕ) → IsWhole m → from < length (blocks m p) → IsWhole (sweep_one p from m)
unfolding sweep_one
whole_one m p from w l =
    let s : SweptOne p from (entry m p from) m (sweep_one p from m) = swept_one m p from w l in
    record {
      store = lawful_now m p from w l;
      once = swept_once m p from w l;
      full = λ h q. full_now m p from h q w l;
      bodies = length-set m.bodies (entry m p from) (blank None) ∙ (w.bodies ∙ sym s.many);
      ends = λ r d e. end_now m p from r d w l e;
      bytes = λ q. bytes_now m p from q w l;
      places = places_set m.places p _ w.places (busy_place m p _ w (grind (arith, nat_tests, w.places.idle p)));
      channels = record {
        long = grind (arith, nat_tests, length-set, w.channels.long);
        fresh = λ k h. fresh_now m p from k w h;
        numbered = shut_numbered m.contracts m.lines (end_of m (entry m p from)) (end_range m (entry m p from) w) w.channels.numbered;
        contracts_long = w.channels.contracts_long;
        wired = shut_wired m.contracts m.lines (end_of m (entry m p from)) (end_range m (entry m p from) w) w.channels.wired;
        few = w.channels.few;
      };
      reached = shut_reached (end_of m) _ m.contracts m.lines m.opened (entry m p from) (end_of m (entry m p from)) (λ q. ends_now m p from q w l) refl (end_range m (entry m p from) w) w.reached;
      deep = w.deep;
    }

-- the bytes of the swept entry are given back
pub bytes_one : (m : Machine) (p from : ℕ) → IsWhole m → from < length (blocks m p) → len m.store (entry m p from) + all_out (sweep_one p from m).store ≡ all_out m.store
bytes_one m p from w l =
    let r : ℕ = entry m p from in
    let held : holds m.store (Process p) r ≡ true = entry_held m p from w l in
    let e : all_out (back p from m) + len m.store r ≡ all_out m.store = back_bytes m.store p r w.store (rw (held, lt-ltb 0 (len m.store r) (w.full (Process p) r held)) refl) in
    let a : all_out (sweep_one p from m).store ≡ all_out (back p from m) = ap (λ (xs : List ArenaState). all_out (record { owners = m.store.owners; arenas = xs })) (swept_one m p from w l).arenas in
    omega (arith, e, a)

pub sweep_step : (n p from : ℕ) (m : Machine) → 0 < n → from < length (blocks m p) → sweep p from n m ≡ sweep p from (n - 1) (sweep_one p from m)
sweep_step n p from m h l = grind (arith, nat_tests, lt-ltb)
