-- A new machine is whole, and so is one where a process starts, and one where a channel is opened.
use Rattle.xh_serial.proofs.Common.{new_line, ArePlaces, BodyOf, Bool, Config, Direction, Holder, IsConfig, IsLawful, IsNumbered, IsRunning, IsSound, IsWhole, Line, List, Machine, None, Option}
use Rattle.xh_serial.proofs.Common.{Paired, Place, Process, Row, Some, Store, [], accept_all, ap, arith, at_replicate, at_set, blank, blocks, body, cases_eq, cond, count_append, end_of, eq-eqb}
use Rattle.xh_serial.proofs.Common.{false, false≢true, get_or-set_other, get_or-set_same, holds, inl, inr, is_held_by, is_over, is_ready, is_some, is_there, len, length, length-append}
use Rattle.xh_serial.proofs.Common.{length-replicate, length-set, line, listed, moved, nat_tests, ne_eqb, new_machine, new_store, no_bytes, no_line, no_place, on_way, one_time, owner, pass_all, peer}
use Rattle.xh_serial.proofs.Common.{place, position, position-Some, refl, same_len, same_process, slice_index_or, slice_set, serial_started, started_at, subst, sym, times, true, waiting, with_last, with_pair}
use Rattle.xh_serial.proofs.Common.{ℕ, ◌%◌, ◌*◌, ◌++◌, ◌+◌, ◌/◌, ◌<◌, ◌==◌, ◌∙◌, ◌∷◌, ◌≡◌, ◌≢◌}
use Rattle.xh_serial.proofs.Accepting.{Went, accepted_all, passed_all}
use Rattle.xh_serial.proofs.Machines.{IsPlace, current_generation, current_range, list_in, list_set, peer_half, place_there, places_set, places_whole, runs_busy, same_lists}
use Rattle.xh_serial.proofs.Room.{room}
use Rattle.xh_serial.proofs.Wired.{same_lines, set_numbered}
use Rattle.xh_serial.specs.ChannelCommands.{wired}
use Rattle.std.specs.Prelude.{◌||◌}

module _ (m : Machine) (p : ℕ) (w : IsWhole m) (c : is_ready (place m.places p) ≡ true) where
  abbrev next : Machine
  next = record m { places = slice_set m.places (p % 32) (serial_started (place m.places p)) }

  started_whole : IsWhole next
  started_whole =
      let empty : (place m.places p).blocks.items ≡ [] = grind (arith, nat_tests, w.places.idle p) in
      let is : IsPlace (serial_started (place m.places p)) = record { generation = grind (arith, nat_tests, w.places.generations p); idle = λ h. absurd (false≢true h) } in
      places_whole m _ w (places_set m.places p (serial_started (place m.places p)) w.places is)
      (λ k q. ap (times q) (same_lists m.places p (serial_started (place m.places p)) (place_there m p w) (λ k. grind (arith, nat_tests, empty)) k))

-- the same at the first place where one can
pub spawn_whole : (m : Machine) (o : Option ℕ) → IsWhole m → position is_ready m.places ≡ o → IsWhole (record m { places = (started_at o m.places).1 })
spawn_whole m None w e = w
spawn_whole m (Some k) w e =
    let at = position-Some is_ready m.places k no_place e in
    let small : k % 32 ≡ k = (let l = at.0 in let n = w.places.long in omega (arith, l, n)) in
    subst (λ (i : ℕ). IsWhole (record m { places = slice_set m.places i (serial_started (slice_index_or m.places i no_place)) })) small
    (started_whole m k w (ap (λ (i : ℕ). is_ready (slice_index_or m.places i no_place)) small ∙ at.1))

-- ---- a new machine

module _ (c : Config) (is : IsConfig c) (lawful : IsLawful (new_store c)) where
  abbrev m : Machine
  m = new_machine c

  -- what is read of it at any number
  bare : (r : ℕ) → (owner m.store r ≡ None) × (body m.bodies r ≡ blank None) × (place m.places r ≡ no_place) × (line m.lines r ≡ no_line)
  unfolding new_machine new_store
  bare r = (at_replicate (256 * c.arenas) r None, at_replicate (256 * c.arenas) r (blank None), at_replicate 32 (r % 32) no_place, at_replicate 128 r no_line)

  once : (h : Holder) (r : ℕ) → times r (listed m h) ≡ cond (holds m.store h r) 1 0
  once (Process p) r = grind (arith, nat_tests, (bare p).2, (bare r).0)
  once (Direction d) r = rw ((bare d).3, (bare r).0) refl

  pub new_whole : IsWhole m
  unfolding new_machine new_store
  new_whole = record {
    store = lawful;
    once = once;
    full = λ h r y. absurd (false≢true (ap (λ o. is_held_by o h) (sym (bare r).0) ∙ y));
    bodies = length-replicate {A = BodyOf} (256 * c.arenas) (blank None) ∙ sym (length-replicate {A = Option Holder} (256 * c.arenas) None);
    ends = λ r d e. absurd (false≢true (ap (λ (b : BodyOf). is_some b.end) (sym (bare r).1) ∙ ap is_some e));
    bytes = λ r. subst (λ (b : BodyOf). length b.bytes ≡ cond (is_some b.end) 0 (len m.store r)) (sym (bare r).1)
        (sym (no_bytes (owner m.store r) (len m.store r) (bare r).0 (lawful.owned r)));
    places = record {
      long = length-replicate 32 no_place;
      generations = λ p. rw (bare p).2 (omega arith);
      idle = λ p s. ap (λ (x : Place). x.blocks.items) (bare p).2;
    };
    channels = record {
      long = length-replicate 128 no_line;
      fresh = λ d h. (bare d).3;
      numbered = λ d. subst IsNumbered (sym (bare d).3) (1, refl);
      contracts_long = length-replicate {A = Option (List Row)} 64 None;
      wired = λ k rows e. absurd (false≢true (ap is_some (sym (at_replicate {A = Option (List Row)} 64 (k / 2) None) ∙ e)));
      few = omega arith;
    };
    reached = record { drained = λ d h. ap (λ (l : Line). l.waiting.items) (bare d).3; there = λ d h. absurd (omega (arith, h)) };
    deep = is.most_depth;
  }

-- ---- records go to the ends of the lists of processes that run

-- p is the latest process of its place, and may list something
pub record IsBusy (ps : List Place) (p : ℕ) : Type 0 where
  pub current : (place ps p).generation ≡ p / 32
  pub busy : is_over (place ps p).status ≡ false

running_place : (m : Machine) (p : ℕ) → IsRunning m p → IsBusy m.places p
running_place m p r = record { current = current_generation m p r.0; busy = runs_busy m p r }

pub own_list : (ps : List Place) (p : ℕ) → IsBusy ps p → list_in ps p ≡ (place ps p).blocks.items
own_list ps p b = let e : ((place ps p).generation == (p / 32)) ≡ true = eq-eqb _ _ b.current in rw e refl

module _ (ps : List Place) (p r : ℕ) (a : ArePlaces ps) (b : IsBusy ps p) where
  abbrev longer : Place
  longer = record (place ps p) { blocks = record { items = (place ps p).blocks.items ++ r ∷ [] } }

  within : p % 32 < length ps
  within = let e = a.long in omega (arith, e)

  at : (k : ℕ) → place (with_last p r ps) k ≡ cond ((k % 32) == (p % 32)) longer (place ps k)
  at k = at_set ps (p % 32) (k % 32) longer no_place within

  pub longer_places : ArePlaces (with_last p r ps)
  longer_places = places_set ps p longer a (record { generation = a.generations p; idle = λ h. absurd (false≢true (sym b.busy ∙ h)) })

  pub longer_busy : (k : ℕ) → IsBusy ps k → IsBusy (with_last p r ps) k
  longer_busy k h = record { current = grind (arith, nat_tests, at k, h.current); busy = grind (arith, nat_tests, at k, h.busy) }

  pub longer_list : (k : ℕ) → list_in (with_last p r ps) k ≡ cond (p == k) (list_in ps k ++ r ∷ []) (list_in ps k)
  longer_list k = grind (arith, nat_tests, list_set ps p ((place ps p).blocks.items ++ r ∷ []) within b.current k, b.current)

-- how often a record stands in a list that may have got one more
times_longer : (b : Bool) (r : ℕ) (xs : List ℕ) (j : ℕ) → times j (cond b (xs ++ r ∷ []) xs) ≡ times j xs + cond {A = ℕ} b (cond {A = ℕ} (r == j) 1 0) 0
times_longer b r xs j = grind (arith, nat_tests, count_append j xs (r ∷ []), one_time j r)

-- ---- an end changes hands

-- what a process that keeps a record, or hands it over, leaves of a store
pub end_moved : (p q t d : ℕ) (s : Store) → q < 65504 → d < 128 → holds s (Process p) t ≡ true → ((k : ℕ) → holds s (Process p) k ≡ true → 0 < len s k) → Went (Process q) (t ∷ []) s (moved p q t d s)
end_moved p q t d s ql dl h full = elim (cases_eq p q) [
  | inl e ↦ rw (eq-eqb p q e) (record { owners = λ k. grind (arith, nat_tests, one_time k t, same_process (owner s t) p h); many = refl; arenas = refl })
  | inr n ↦ rw (ne_eqb p q n) (
      let a : Went (Direction d) (t ∷ []) s (pass_all p d (t ∷ []) s) = passed_all p d (t ∷ []) s dl (λ k. grind (arith, nat_tests, one_time k t)) full in
      let b : Went (Process q) (t ∷ []) (pass_all p d (t ∷ []) s) (accept_all q d (t ∷ []) (pass_all p d (t ∷ []) s)) = accepted_all q d (t ∷ []) (pass_all p d (t ∷ []) s) ql
      (λ k. grind (arith, nat_tests, one_time k t, a.owners k)) in
      record { owners = λ k. grind (arith, nat_tests, a.owners k, b.owners k); many = b.many ∙ a.many; arenas = b.arenas ∙ a.arenas })
]

-- ---- a channel is opened

pub pair_there : (p a r t : ℕ) (s n : Store) → Paired p a r t s n → (k : ℕ) → ((k == r) || (k == t)) ≡ true → k < length s.owners
pair_there p a r t s n v k y = let l : k < length n.owners = is_there n (Process p) k (grind (arith, nat_tests, v.owners k)) in let e = v.many in omega (arith, l, e)

-- what is known once the two records have their blocks, and one of them went to q
pub record Connects (p q a r t : ℕ) (contract : Option (List Row)) (m : Machine) : Type 0 where
  pub whole : IsWhole m
  pub runs_p : IsRunning m p
  pub runs_q : IsRunning m q
  pub more : m.opened < 64
  pub sound : IsSound contract
  pub pair : Paired p a r t m.store (with_pair p r t m.store)
  pub lawful : IsLawful (wired p q r t contract m).store

module _ (p q a r t : ℕ) (contract : Option (List Row)) (m : Machine) (v : Connects p q a r t contract m) where
  abbrev n : Machine
  n = wired p q r t contract m

  abbrev pair : Store
  pair = with_pair p r t m.store

  -- ---- who holds what

  full : (k : ℕ) → holds pair (Process p) k ≡ true → 0 < len pair k
  full k h = grind (arith, nat_tests, v.pair.owners k, v.pair.head, v.pair.tail, v.pair.kept k, v.whole.full (Process p) k)

  hand : Went (Process q) (t ∷ []) pair n.store
  hand = end_moved p q t (2 * m.opened + 1) pair (current_range m q v.whole v.runs_q.0) (omega (arith, v.more)) (grind (arith, nat_tests, v.pair.owners t)) full

  owners : (k : ℕ) → owner n.store k ≡ cond (k == t) (Some (Process q)) (cond (k == r) (Some (Process p)) (owner m.store k))
  owners k = grind (arith, nat_tests, hand.owners k, one_time k t, v.pair.owners k)

  empty : (k : ℕ) → owner m.store k ≡ None → len m.store k ≡ 0
  empty k e = no_bytes (owner m.store k) (len m.store k) e (v.whole.store.owned k)

  lens : (k : ℕ) → len n.store k ≡ len pair k
  lens k = same_len pair n.store k hand.arenas

  many : length n.store.owners ≡ length m.store.owners
  many = hand.many ∙ v.pair.many

  middle : ArePlaces (with_last p r m.places)
  middle = longer_places m.places p r v.whole.places (running_place m p v.runs_p)

  busy_q : IsBusy (with_last p r m.places) q
  busy_q = longer_busy m.places p r v.whole.places (running_place m p v.runs_p) q (running_place m q v.runs_q)

  between : (h : ℕ) → list_in (with_last p r m.places) h ≡ cond (p == h) (blocks m h ++ r ∷ []) (blocks m h)
  between h = longer_list m.places p r v.whole.places (running_place m p v.runs_p) h

  lists : (h : ℕ) → blocks n h ≡ cond (q == h) (list_in (with_last p r m.places) h ++ t ∷ []) (list_in (with_last p r m.places) h)
  lists h = longer_list (with_last p r m.places) q t middle busy_q h

  count : (h j : ℕ) → times j (blocks n h) ≡ times j (blocks m h) + cond {A = ℕ} (p == h) (cond {A = ℕ} (r == j) 1 0) 0 + cond {A = ℕ} (q == h) (cond {A = ℕ} (t == j) 1 0) 0
  count h j = let a = times_longer (q == h) t (list_in (with_last p r m.places) h) j in let b = times_longer (p == h) r (blocks m h) j in rw (lists h, a, between h, b) refl

  -- ---- the directions

  long_lines : 2 * m.opened + 1 < length m.lines
  long_lines = let e = v.whole.channels.long in omega (arith, e, v.more)

  line_is : (d : ℕ) → line n.lines d ≡ cond ((d / 2) == m.opened) (new_line contract) (line m.lines d)
  line_is d = grind (arith, nat_tests, length-set, long_lines, at_set)

  line_new : (d : ℕ) → d / 2 ≡ m.opened → line n.lines d ≡ new_line contract
  line_new d e = line_is d ∙ rw (eq-eqb (d / 2) m.opened e) refl

  line_old : (d : ℕ) → d / 2 ≢ m.opened → line n.lines d ≡ line m.lines d
  line_old d a = line_is d ∙ rw (ne_eqb (d / 2) m.opened a) refl

  ways : (d : ℕ) → on_way n d ≡ on_way m d
  ways d = grind (arith, nat_tests, line_new, line_old)

  once_now : (h : Holder) (j : ℕ) → times j (listed n h) ≡ cond (holds n.store h j) 1 0
  once_now (Process h) j = grind (arith, nat_tests, count h j, owners j, v.whole.once (Process h) j, v.pair.free.0, v.pair.free.1, v.pair.apart)
  once_now (Direction d) j = rw (ways d) (grind (arith, nat_tests, v.whole.once (Direction d) j, owners j, v.pair.free.0, v.pair.free.1))

  -- ---- the endpoints

  there : (k : ℕ) → ((k == r) || (k == t)) ≡ true → k < length m.bodies
  there k y = rw v.whole.bodies (pair_there p a r t m.store pair v.pair k y)

  body_is : (k : ℕ) → body n.bodies k ≡ cond (k == t) (blank (Some (2 * m.opened + 1))) (cond (k == r) (blank (Some (2 * m.opened))) (body m.bodies k))
  body_is k =
      let low : r < length m.bodies = there r (grind (arith, nat_tests)) in
      let high : t < length m.bodies = there t (grind (arith, nat_tests)) in
      grind (arith, nat_tests, length-set, at_set)

  end_is : (k : ℕ) → end_of n k ≡ cond (k == t) (Some (2 * m.opened + 1)) (cond (k == r) (Some (2 * m.opened)) (end_of m k))
  end_is k = grind (arith, nat_tests, body_is k)

  drained : (d : ℕ) → (line n.lines d).shut ≡ true → waiting n d ≡ []
  drained d = grind (arith, nat_tests, line_is d, v.whole.reached.drained d)

  reached : (d : ℕ) → d < 2 * (m.opened + 1) → (line n.lines d).shut ≡ false → (e : ℕ) × (end_of n e ≡ Some d)
  reached d below not_shut = elim (cases_eq (d / 2) m.opened) [
    | inl e ↦ (cond ((d % 2) == 0) r t, grind (arith, nat_tests, end_is r, end_is t, v.pair.apart))
    | inr a ↦ (
        let old = v.whole.reached.there d (grind (arith, nat_tests)) (grind (arith, nat_tests, line_is d)) in
        (old.0, grind (arith, nat_tests, end_is old.0, old.1, (v.whole.ends old.0 d old.1).held, v.pair.free.0, v.pair.free.1)))
  ]

  -- ---- all of it

  pub connected_whole : IsWhole n
  connected_whole = record {
    store = v.lawful;
    once = once_now;
    full = λ h k y. grind (arith, nat_tests, owners k, lens k, v.pair.head, v.pair.tail, v.pair.kept k, v.whole.full h k);
    bodies = length-set (slice_set m.bodies r _) t _ ∙ (length-set m.bodies r _ ∙ (v.whole.bodies ∙ sym many));
    ends = λ k d e.
        let held : end_of m k ≡ Some d → is_some (owner m.store k) ≡ true = λ f. (v.whole.ends k d f).held in
        let below : (j : ℕ) → end_of m j ≡ Some d → d < 2 * m.opened = λ j f. (v.whole.ends j d f).opened in
        let alone : (j : ℕ) → end_of m k ≡ Some d → end_of m j ≡ Some d → j ≡ k = λ j f. (v.whole.ends k d f).alone j in record {
          held = grind (arith, nat_tests, end_is k, owners k, held);
          opened = grind (arith, nat_tests, end_is k, below k);
          alone = λ j f. grind (arith, nat_tests, end_is k, end_is j, below k, below j, alone j);
        };
    bytes = λ k. grind (arith, nat_tests, body_is k, lens k, v.pair.kept k, v.pair.free.0, v.pair.free.1, empty k, v.whole.bytes k);
    places = longer_places (with_last p r m.places) q t middle busy_q;
    channels = record {
      long = length-set (slice_set m.lines (2 * m.opened) (new_line contract)) (2 * m.opened + 1) (new_line contract)
          ∙ (length-set m.lines (2 * m.opened) (new_line contract) ∙ v.whole.channels.long);
      fresh = λ d h. line_old d (λ e. absurd (omega (arith, h, e))) ∙ v.whole.channels.fresh d (omega (arith, h));
      numbered = set_numbered (slice_set m.lines (2 * m.opened) (new_line contract)) (2 * m.opened + 1) (new_line contract)
          (subst (λ (x : ℕ). 2 * m.opened + 1 < x) (sym (length-set m.lines (2 * m.opened) (new_line contract))) long_lines)
          (set_numbered m.lines (2 * m.opened) (new_line contract) (let e = long_lines in omega (arith, e)) v.whole.channels.numbered (1, refl)) (1, refl);
      contracts_long = length-set m.contracts m.opened contract ∙ v.whole.channels.contracts_long;
      wired = λ d rows is. elim (cases_eq (d / 2) m.opened) [
        | inl e ↦ (
            let known : m.opened < length m.contracts = subst (λ (x : ℕ). m.opened < x) (sym v.whole.channels.contracts_long) v.more in
            let there : contract ≡ Some rows = sym (get_or-set_same m.contracts m.opened contract None known) ∙ (ap (λ (i : ℕ). slice_index_or n.contracts i None) (sym e) ∙ is) in
            let high : new_line contract ≡ line n.lines (peer d) = sym (line_new (peer d) (peer_half d ∙ e)) in
            (v.sound rows there, same_lines rows (d % 2) (new_line contract) (line n.lines d) (new_line contract) (line n.lines (peer d)) (sym (line_new d e)) high (refl, inl refl)))
        | inr a ↦ (
            let was = v.whole.channels.wired d rows (sym (get_or-set_other m.contracts m.opened (d / 2) contract None a) ∙ is) in (
              was.0,
              same_lines rows (d % 2) (line m.lines d) (line n.lines d) (line m.lines (peer d)) (line n.lines (peer d))
                  (sym (line_old d a)) (sym (line_old (peer d) (λ s. a (sym (peer_half d) ∙ s)))) was.1,
            ))
      ];
      few = omega (arith, v.more);
    };
    reached = record { drained = drained; there = reached };
    deep = v.whole.deep;
  }

  -- ---- the lists have room

  pub room_q : length (place (with_last p r m.places) q).blocks.items < 2048
  room_q = grind (arith, nat_tests, room n q None connected_whole, lists q, length-append (list_in (with_last p r m.places) q) (t ∷ []), own_list (with_last p r m.places) q busy_q)

  pub room_p : length (place m.places p).blocks.items < 2048
  room_p =
      let all = room n p None connected_whole in let one = length-append (list_in m.places p) (r ∷ []) in let more = length-append (list_in (with_last p r m.places) p) (t ∷ []) in
      grind (arith, nat_tests, lists p, between p, own_list m.places p (running_place m p v.runs_p))
