-- What a change of a list, of a status or of free records leaves: a whole machine; and what a stop and a close reclaim.
use Rattle.xh_serial.proofs.Common.{BodyOf, Bool, Carve, Claim, Cut, Direction, Ending, Frees, Gained, Holder, IsRunning, IsWhole, List, Machine, None, Process, Some, Status, Store, SweepsOver, []}
use Rattle.xh_serial.proofs.Common.{after, allocated, ap, append-nil, arith, arriving, at_set, blocks, body, buffer, cond, count_append, drop, end_of, eq-eqb, false≢true, freed_block, holds}
use Rattle.xh_serial.proofs.Common.{in_range, is_known, is_over, is_some, last, len, length, length-drop, length-remove, length-replicate, length-set, length-take-le, listed, moved_last, nat_tests}
use Rattle.xh_serial.proofs.Common.{ne_eqb, nil_from_length, not, one_time, owner, parted, passes_at_first, place, position, position_or_len, refilled, refl, relisted, remove, replicate}
use Rattle.xh_serial.proofs.Common.{prefix_len-le-length, set-get_or, slice_index_or, subst, suc, sum_by-remove, sweep, sweep_one, sym, take, times, times-cons, true, unwrap_or, restated, zero}
use Rattle.xh_serial.proofs.Common.{ℕ, ◌*◌, ◌++◌, ◌+◌, ◌-◌, ◌<◌, ◌==◌, ◌∙◌, ◌∷◌, ◌≡◌, ◌≢◌, ◌≤◌}
use Rattle.xh_serial.proofs.Machines.{IsPlace, busy_place, current_blocks, current_generation, list_set, place_here, place_there, places_set, places_whole, runs_busy, same_lists}
use Rattle.xh_serial.proofs.Sweeps.{finishes, sweep_frees, sweep_sweeps}
use Rattle.xh_serial.proofs.Swept.{whole_one}
use Rattle.xh_serial.proofs.Room.{came_whole, few, few_records, has, held_there}

-- the first that passes, or the length where none does
pub first_or_length : (p : ℕ → Bool) (xs : List ℕ) → unwrap_or (position p xs) (length xs) ≡ position_or_len p xs
first_or_length p xs = let l : position_or_len p xs ≤ length xs = prefix_len-le-length (λ x. not (p x)) xs in grind (arith, nat_tests)

-- where the first e stands
pub found : (e : ℕ) (rs : List ℕ) → 0 < times e rs → position_or_len (λ q. q == e) rs < length rs
found e [] h = absurd (omega (arith, h))
found e (r ∷ rs) h = grind (arith, nat_tests, times-cons e r rs, found e rs)

pub is_found : (e : ℕ) (rs : List ℕ) → 0 < times e rs → slice_index_or rs (position_or_len (λ q. q == e) rs) 0 ≡ e
is_found e rs h = let y : (slice_index_or rs (position_or_len (λ q. q == e) rs) 0 == e) ≡ true = passes_at_first (λ q. q == e) rs 0 (found e rs h) in grind (arith, nat_tests)

times_last : (e q : ℕ) (rs : List ℕ) → 0 < times e rs → times q (last e rs) ≡ times q rs
times_last e q rs h =
    let k : ℕ = position_or_len (λ x. x == e) rs in
    let f : ℕ → ℕ = λ x. cond {A = ℕ} (x == q) 1 0 in
    let c : times q (remove rs k) + f (slice_index_or rs k 0) ≡ times q rs = sum_by-remove f rs k 0 (found e rs h) in
    let d : f (slice_index_or rs k 0) ≡ f e = ap f (is_found e rs h) in
    grind (arith, nat_tests, count_append q (remove rs k) (e ∷ []), one_time q e)

drop_to : (xs : List ℕ) (e n : ℕ) → length xs ≡ n → drop n (xs ++ e ∷ []) ≡ e ∷ []
drop_to [] e n h = let z : n ≡ 0 = sym h in rw z refl
drop_to (x ∷ xs) e zero h = absurd (omega arith)
drop_to (x ∷ xs) e (suc n) h = drop_to xs e n (omega arith)

pub one_listed : (m : Machine) (p e : ℕ) → IsWhole m → holds m.store (Process p) e ≡ true → 0 < times e (blocks m p)
one_listed m p e w h = let o : times e (blocks m p) ≡ 1 = w.once (Process p) e ∙ rw h refl in omega arith

module _ (m : Machine) (p e : ℕ) (w : IsWhole m) (r : IsRunning m p) (h : holds m.store (Process p) e ≡ true) where
  pub last_whole : IsWhole (moved_last p e m)
  last_whole = places_whole m _ w (places_set m.places p _ w.places (busy_place m p (last e (blocks m p)) w (runs_busy m p r)))
      (λ k q. grind (arith, nat_tests, list_set m.places p (last e (blocks m p)) (place_there m p w) (current_generation m p r.0) k, times_last e q (blocks m p) (one_listed m p e w h)))

-- to free a data block is to sweep its entry
pub frees_block : (m : Machine) (p r : ℕ) → 0 < times r (blocks m p) → end_of m r ≡ None → sweep_one p (position_or_len (λ q. q == r) (blocks m p)) m ≡ freed_block p r m
unfolding sweep_one freed_block
frees_block m p r h none = grind (arith, nat_tests, is_found, set-get_or, append-nil)

-- ---- another status

pub status_blocks : (m : Machine) (p q : ℕ) (s : Status) → IsWhole m → blocks (record m { places = restated p s m.places }) q ≡ blocks m q
status_blocks m p q s w = same_lists m.places p (record (place m.places p) { status = s }) (place_there m p w) (λ k. refl) q

pub status_whole : (m : Machine) (p : ℕ) (s : Status) → IsWhole m → (is_over s ≡ true → length (place m.places p).blocks.items ≡ 0) → IsWhole (record m { places = restated p s m.places })
status_whole m p s w e =
    let is : IsPlace (record (place m.places p) { status = s }) = record { generation = w.places.generations p; idle = λ h. nil_from_length (place m.places p).blocks.items (e h) } in
    places_whole m _ w (places_set m.places p (record (place m.places p) { status = s }) w.places is) (λ k q. ap (times q) (status_blocks m p k s w))

-- the machine where p is ending
abbrev pub ending : ℕ → Machine → Machine
ending p m = record m { places = restated p Ending m.places }

ending_whole : (m : Machine) (p : ℕ) → IsWhole m → IsWhole (ending p m)
ending_whole m p w = status_whole m p Ending w (λ h. absurd (false≢true h))

-- ---- a stop: the sweep of a list hangs on no status

-- what is left is swept, and machines that list the same for p are as one
pub stop_sweeps : (m n k : Machine) (p budget : ℕ) → IsWhole m → n ≡ sweep p 0 budget (ending p m) → blocks k p ≡ blocks n p → SweepsOver p 0 budget m k
stop_sweeps m n k p budget w is f =
    let h : SweepsOver p 0 budget (ending p m) n = rw is (sweep_sweeps budget p 0 (ending p m) (ending_whole m p w)) in
    let e : blocks (ending p m) p ≡ blocks m p = status_blocks m p p Ending w in record {
      taken = h.taken;
      accepted = h.accepted;
      within = h.within;
      there = rw (← e) h.there;
      was_on_way = rw (← e) h.was_on_way;
      once = rw (← e) h.once;
      in_flight = h.in_flight;
      before = refl;
      rest = rw (f, ← e) h.rest;
      left = rw f h.left;
    }

pub stop_frees : (m n : Machine) (p budget : ℕ) → IsWhole m → n ≡ sweep p 0 budget (ending p m) → length (blocks n p) ≡ 0 → Frees (arriving m) m.store n.store (blocks m p)
stop_frees m n p budget w is none =
    let done : length (blocks (sweep p 0 budget (ending p m)) p) ≤ 0 = subst (λ (x : Machine). length (blocks x p) ≤ 0) is (omega (arith, none)) in
    subst (Frees (arriving m) m.store n.store) (status_blocks m p p Ending w)
    (subst (λ (x : Machine). Frees (arriving m) m.store x.store (blocks (ending p m) p)) (sym is) (sweep_frees budget p 0 (ending p m) (ending_whole m p w) done))

-- ---- a close

pub close_sweeps : (budget : ℕ) (m n : Machine) (p e : ℕ) → IsWhole m → IsRunning m p → holds m.store (Process p) e ≡ true →
    n ≡ sweep p (length (blocks m p) - 1) budget (moved_last p e m) → SweepsOver p (length (blocks m p) - 1) budget (moved_last p e m) n
close_sweeps budget m n p e w r h is = grind (arith, nat_tests, sweep_sweeps, last_whole)

pub close_frees : (budget : ℕ) (m n : Machine) (p e : ℕ) → IsWhole m → IsRunning m p → holds m.store (Process p) e ≡ true → 2048 < budget →
    n ≡ sweep p (length (blocks m p) - 1) budget (moved_last p e m) → Frees (arriving m) m.store n.store (e ∷ [])
close_frees budget m n p e w r h b is =
    let from : ℕ = length (blocks m p) - 1 in
    let whole : IsWhole (moved_last p e m) = last_whole m p e w r h in
    let done : length (blocks n p) ≤ from = finishes p from budget (moved_last p e m) n whole b (close_sweeps budget m n p e w r h is) in
    let here : blocks (moved_last p e m) p ≡ last e (blocks m p) = rw (place_here m.places p _ (place_there m p w), r.0) refl in
    let list : drop from (blocks (moved_last p e m) p) ≡ e ∷ [] = ap (drop from) here ∙ (grind (arith, nat_tests, length-remove, found, drop_to)) in
    subst (Frees (arriving m) m.store n.store) list
    (subst (λ (x : Machine). Frees (arriving m) m.store x.store (drop from (blocks (moved_last p e m) p))) (sym is)
    (sweep_frees budget p from (moved_last p e m) whole (subst (λ (x : Machine). length (blocks x p) ≤ from) is done)))

-- ---- a process gains free records

-- a free record is no endpoint
pub free_no_end : (m : Machine) (r : ℕ) → IsWhole m → owner m.store r ≡ None → end_of m r ≡ None
free_no_end m r w f = grind (arith, nat_tests)

-- p gains free records; endpoints, channels and the other lists stay
module _ (p : ℕ) (rs : List ℕ) (m n : Machine) (w : IsWhole m) (r : IsRunning m p) (g : Gained p rs m.store n.store) (places : n.places ≡ relisted p (blocks m p ++ rs) m.places)
    (ends : (q : ℕ) → end_of n q ≡ end_of m q) (lines : n.lines ≡ m.lines) (contracts : n.contracts ≡ m.contracts) (opened : n.opened ≡ m.opened) (depth : n.depth ≡ m.depth)
    (bodies : length n.bodies ≡ length m.bodies) (bytes : (q : ℕ) → length (buffer n q) ≡ cond (is_some (end_of m q)) 0 (len n.store q)) where
  lists : (k : Holder) (q : ℕ) → times q (listed n k) + has None k * times q rs ≡ times q (listed m k) + has (Some (Process p)) k * times q rs
  lists (Process k) q = grind (arith, nat_tests, places, list_set m.places p (blocks m p ++ rs) (place_there m p w) (current_generation m p r.0) k, count_append q (blocks m p) rs)
  lists (Direction d) q = rw lines (omega arith)

  pub gained_whole : IsWhole n
  gained_whole = came_whole None (Process p) rs m n w (record {
    lawful = g.lawful;
    moved = record { were = g.free; once = g.once; owners = g.owners; lists = lists };
    full = g.full;
    kept = g.kept;
    many = g.many;
    ends = ends;
    bodies = bodies;
    bytes = bytes;
    places = rw places (places_set m.places p _ w.places (busy_place m p (blocks m p ++ rs) w (runs_busy m p r)));
    channels = rw (lines, contracts, opened) w.channels;
    reached = rw (lines, opened) w.reached;
    opened = opened;
    depth = depth;
  })

-- ---- alloc

-- other bytes of a record leave the directions as they were
module _ (bodies : List BodyOf) (r : ℕ) (bytes : List ℕ) (there : r < length bodies) (q : ℕ) where
  refilled_end : (body (refilled r bytes bodies) q).end ≡ (body bodies q).end
  refilled_end = grind (arith, nat_tests, at_set)

  refilled_bytes : (body (refilled r bytes bodies) q).bytes ≡ cond (q == r) bytes (body bodies q).bytes
  refilled_bytes = grind (arith, nat_tests, at_set)

-- a free record has a body
pub free_there : (m : Machine) (r : ℕ) → IsWhole m → is_known m.store r ≡ true → r < length m.bodies
free_there m r w k = subst (λ (n : ℕ). r < n) (sym w.bodies) (in_range m.store r w.store k)

-- the list of a process has room for a record that nobody holds
pub room_for : (m : Machine) (p r : ℕ) → IsWhole m → IsRunning m p → owner m.store r ≡ None → r < length m.store.owners → length (place m.places p).blocks.items < 2048
room_for m p r w run f there =
    let most : length m.store.owners ≤ 2048 = few_records m w in
    let l : length (r ∷ blocks m p) ≤ length m.store.owners = few (length m.store.owners) (r ∷ blocks m p)
    (λ q. grind (arith, nat_tests, times-cons q r (blocks m p), w.once (Process p) q)) (λ q l. grind (arith, nat_tests, times-cons q r (blocks m p), held_there m (Process p) q w)) in
    let e : length (blocks m p) ≡ length (place m.places p).blocks.items = ap length (current_blocks m p run.0) in
    omega (arith, l, most, e)

-- a block is allocated
pub allocated_whole : (m : Machine) (p r n : ℕ) → IsWhole m → IsRunning m p → Gained p (r ∷ []) m.store (after (Carve p r n) (after (Claim p r) m.store)) →
    owner m.store r ≡ None → r < length m.store.owners → len (after (Carve p r n) (after (Claim p r) m.store)) r ≡ n →
    ((q : ℕ) → q ≢ r → len (after (Carve p r n) (after (Claim p r) m.store)) q ≡ len m.store q) → IsWhole (allocated p r n m)
unfolding allocated
allocated_whole m p r n w run g f there long others =
    gained_whole p (r ∷ []) m (allocated p r n m) w run g refl (refilled_end m.bodies r (replicate n 0) (rw w.bodies there)) refl refl refl refl (length-set m.bodies r _)
    (λ q. grind (arith, nat_tests, refilled_bytes m.bodies r (replicate n 0) (rw w.bodies there) q, free_no_end m r w f, length-replicate {A = ℕ} n 0, others q, w.bytes q, long))

-- ---- free

pub listed_place : (m : Machine) (p r : ℕ) → IsWhole m → IsRunning m p → holds m.store (Process p) r ≡ true →
    position_or_len (λ q. q == r) (place m.places p).blocks.items < length (place m.places p).blocks.items
listed_place m p r w run h = grind (arith, nat_tests, found, one_listed, current_blocks)

-- a data block is freed
pub freed_whole : (m : Machine) (p r : ℕ) → IsWhole m → holds m.store (Process p) r ≡ true → end_of m r ≡ None → IsWhole (freed_block p r m)
freed_whole m p r w h e =
    let t : 0 < times r (blocks m p) = one_listed m p r w h in
    subst IsWhole (frees_block m p r t e) (whole_one m p (position_or_len (λ q. q == r) (blocks m p)) w (found r (blocks m p) t))

-- ---- split

split_bytes : (m : Machine) (u : Store) (r t k : ℕ) → IsWhole m → end_of m r ≡ None → owner m.store t ≡ None → r ≢ t → r < length m.store.owners → t < length m.store.owners → k ≤ len m.store r →
    len u r ≡ k → len u t + k ≡ len m.store r → ((q : ℕ) → q ≢ r → q ≢ t → len u q ≡ len m.store q) →
    (q : ℕ) → length (body (refilled t (drop k (buffer m r)) (refilled r (take k (buffer m r)) m.bodies)) q).bytes ≡ cond (is_some (end_of m q)) 0 (len u q)
split_bytes m u r t k w d f ne there t_there few head tail others q = grind (arith, nat_tests, length-set, at_set, eq-eqb, length-take-le, few, ne_eqb, free_no_end, length-drop)

-- a block is split
pub parted_whole : (m : Machine) (p r t k : ℕ) → IsWhole m → IsRunning m p → Gained p (t ∷ []) m.store (after (Cut p r t k) (after (Claim p t) m.store)) →
    end_of m r ≡ None → owner m.store t ≡ None → r ≢ t → r < length m.store.owners → t < length m.store.owners → k ≤ len m.store r →
    len (after (Cut p r t k) (after (Claim p t) m.store)) r ≡ k → len (after (Cut p r t k) (after (Claim p t) m.store)) t + k ≡ len m.store r →
    ((q : ℕ) → q ≢ r → q ≢ t → len (after (Cut p r t k) (after (Claim p t) m.store)) q ≡ len m.store q) → IsWhole (parted p r t k m)
unfolding parted
parted_whole m p r t k w run g d f ne there t_there few head tail others =
    let first : List BodyOf = refilled r (take k (buffer m r)) m.bodies in
    let same : length first ≡ length m.bodies = length-set m.bodies r _ in
    gained_whole p (t ∷ []) m (parted p r t k m) w run g refl
    (λ q. refilled_end first t (drop k (buffer m r)) (rw (same, w.bodies) t_there) q ∙ refilled_end m.bodies r (take k (buffer m r)) (rw w.bodies there) q)
    refl refl refl refl (length-set first t _ ∙ same) (split_bytes m (parted p r t k m).store r t k w d f ne there t_there few head tail others)

-- ---- write

-- a block has other bytes, as many as before
pub written_whole : (m : Machine) (r : ℕ) (new : List ℕ) → IsWhole m → r < length m.bodies → length new ≡ length (buffer m r) → IsWhole (record m { bodies = refilled r new m.bodies })
written_whole m r new w l e = grind (arith, nat_tests, length-set, at_set)
