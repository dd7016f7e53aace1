-- Records that go from one holder, or from none, to another, or to none; how many there are at most, and how many bytes they have.
use Rattle.xh_serial.proofs.Common.{AreChannels, ArePlaces, Direction, HaveEnds, Holder, IsEndRecord, IsLawful, IsWhole, Line, List, Machine, None, Option, Place, Process, Some, Store, [], all_holders}
use Rattle.xh_serial.proofs.Common.{all_out, arith, blocks, buffer, bytes_of, carried, cond, count_append, end_of, get_or, holders, holds, is_held_by, is_some, is_there, len, length}
use Rattle.xh_serial.proofs.Common.{length-append, length-range_with_len, listed, map, nat_lt, nat_tests, no_line, no_place, numbers, on_way, owner, range_with_len, refl, same_direction}
use Rattle.xh_serial.proofs.Common.{same_known, same_len, same_process, slice_index_or, subst, sum_add, sum_by, sum_by-append, sum_by-cons, sum_by-le, sum_same, sum_zero, sym, times, times-cons}
use Rattle.xh_serial.proofs.Common.{total, total_bytes, true, way_in, ℕ, ◌%◌, ◌*◌, ◌++◌, ◌+◌, ◌<◌, ◌==◌, ◌∙◌, ◌∷◌, ◌≡◌, ◌≤◌}
use Rattle.xh_core.proofs.Ranges.{exchanged, indexed, picked, same_range, sum_mapped}

one_number : (f : ℕ → ℕ) (q r : ℕ) (rs : List ℕ) → times q (r ∷ rs) * f q ≡ cond (r == q) (f r) 0 + times q rs * f q
one_number f q r rs = grind (arith, nat_tests, times-cons q r rs)

-- a sum over a list, number by number
by_number : (f : ℕ → ℕ) (n : ℕ) (rs : List ℕ) → ((q : ℕ) → 0 < times q rs → q < n) → sum_by (λ q. times q rs * f q) (range_with_len 0 n) ≡ sum_by f rs
by_number f n [] h = sum_same (λ q. times q [] * f q) (λ q. 0) (range_with_len 0 n) (λ q. let z : times q [] ≡ 0 = refl in rw z (omega arith)) ∙ sum_zero (range_with_len 0 n)
by_number f n (r ∷ rs) h =
    let here : r < n = h r (grind (arith, nat_tests, times-cons r r rs)) in
    let one : sum_by (λ q. cond {A = ℕ} (r == q) (f r) 0) (range_with_len 0 n) ≡ f r = picked (f r) r 0 n (omega arith) (omega arith) in
    let rest : sum_by (λ q. times q rs * f q) (range_with_len 0 n) ≡ sum_by f rs = by_number f n rs (λ q l. h q (let t = times-cons q r rs in omega arith)) in
    sum_same (λ q. times q (r ∷ rs) * f q) (λ q. cond (r == q) (f r) 0 + times q rs * f q) (range_with_len 0 n) (λ q. one_number f q r rs)
    ∙ (sum_add (λ q. cond (r == q) (f r) 0) (λ q. times q rs * f q) (range_with_len 0 n) ∙ (rw (one, rest) (sym (sum_by-cons f r rs))))

ones : (rs : List ℕ) → sum_by (λ q. 1) rs ≡ length rs
ones [] = refl
ones (r ∷ rs) = omega (arith, ones rs, sum_by-cons (λ q. 1) r rs)

pub few : (n : ℕ) (rs : List ℕ) → ((q : ℕ) → times q rs ≤ 1) → ((q : ℕ) → 0 < times q rs → q < n) → length rs ≤ n
few n rs one in_range =
    let l = sum_by-le (λ q. times q rs * 1) 1 (range_with_len 0 n) (λ k d i. let o = one (get_or (range_with_len 0 n) k d) in omega (arith, o)) in
    omega (arith, l, by_number (λ q. 1) n rs in_range, ones rs, length-range_with_len 0 n)

pub held_there : (m : Machine) (h : Holder) (q : ℕ) → IsWhole m → 0 < times q (listed m h) → q < length m.store.owners
held_there m h q w l = grind (arith, nat_tests, w.once h q, is_there m.store h q)

pub few_records : (m : Machine) → IsWhole m → length m.store.owners ≤ 2048
few_records m w = let a = w.store.few in let b = w.store.long in omega (arith, a, b)

-- a list has room for what is on the way
pub room : (m : Machine) (p : ℕ) (o : Option ℕ) → IsWhole m → length (blocks m p) + length (way_in m.lines o) ≤ 2048
room m p None w =
    let many = few_records m w in
    let f = few (length m.store.owners) (blocks m p) (λ q. grind (arith, nat_tests, w.once (Process p) q)) (λ q. held_there m (Process p) q w) in omega arith
room m p (Some d) w =
    let many = few_records m w in
    let f = few (length m.store.owners) (blocks m p ++ on_way m d)
    (λ q. grind (arith, nat_tests, count_append q (blocks m p) (on_way m d), w.once (Process p) q, w.once (Direction d) q))
    (λ q l. grind (arith, nat_tests, count_append q (blocks m p) (on_way m d), held_there m (Process p) q w, held_there m (Direction d) q w)) in
    let e = length-append (blocks m p) (on_way m d) in omega arith

-- ---- the lists

abbrev pub has : Option Holder → Holder → ℕ
has o h = cond (is_held_by o h) 1 0

-- these records go from one holder to another, and so do they in the lists
pub record Moved (from to : Option Holder) (rs : List ℕ) (s t : Store) (before now : Holder → List ℕ) : Type 0 where
  pub were : (q : ℕ) → nat_lt 0 (times q rs) ≡ true → owner s q ≡ from
  pub once : (q : ℕ) → times q rs ≤ 1
  pub owners : (q : ℕ) → owner t q ≡ cond (nat_lt 0 (times q rs)) to (owner s q)
  pub lists : (h : Holder) (q : ℕ) → times q (now h) + has from h * times q rs ≡ times q (before h) + has to h * times q rs

-- ---- the machine

-- records came to h; endpoints stay, and nothing lost its last byte
pub record Came (from : Option Holder) (h : Holder) (rs : List ℕ) (m n : Machine) : Type 0 where
  pub lawful : IsLawful n.store
  pub moved : Moved from (Some h) rs m.store n.store (listed m) (listed n)
  pub full : (q : ℕ) → nat_lt 0 (times q rs) ≡ true → 0 < len n.store q
  pub kept : (q : ℕ) → 0 < len m.store q → 0 < len n.store q
  pub many : length n.store.owners ≡ length m.store.owners
  pub ends : (q : ℕ) → end_of n q ≡ end_of m q
  pub bodies : length n.bodies ≡ length m.bodies
  pub bytes : (q : ℕ) → length (buffer n q) ≡ cond (is_some (end_of m q)) 0 (len n.store q)
  pub places : ArePlaces n.places
  pub channels : AreChannels n.lines n.contracts n.opened
  pub reached : HaveEnds (end_of m) n.lines n.opened
  pub opened : n.opened ≡ m.opened
  pub depth : n.depth ≡ m.depth

module _ (from : Option Holder) (h : Holder) (rs : List ℕ) (m n : Machine) (w : IsWhole m) (v : Came from h rs m n) where
  end_now : (r d : ℕ) → end_of n r ≡ Some d → IsEndRecord n r d
  end_now r d e = grind (arith, nat_tests, v.ends)

  pub came_whole : IsWhole n
  came_whole = record {
    store = v.lawful;
    once = λ k q. grind (arith, nat_tests, v.moved.were q, v.moved.once q, v.moved.owners q, v.moved.lists k q, w.once k q);
    full = λ k q y. grind (arith, nat_tests, v.moved.owners q, v.full q, v.kept q, w.full k q);
    bodies = v.bodies ∙ (w.bodies ∙ sym v.many);
    ends = end_now;
    bytes = λ q. v.bytes q ∙ rw (v.ends q) refl;
    places = v.places;
    channels = v.channels;
    reached = subst (λ (end : ℕ → Option ℕ). HaveEnds end n.lines n.opened) (λ i q. sym (v.ends q) i) v.reached;
    deep = rw v.depth w.deep;
  }

-- ---- a store in which no byte moved

abbrev pub IsHolder : Holder → Type 0
IsHolder (Process p) = p < 65504
IsHolder (Direction d) = d < 128

holder_is : (o : Option Holder) (h : Holder) → is_held_by o h ≡ true → o ≡ Some h
holder_is o h = grind (arith, nat_tests, same_process, same_direction)

module _ (g h : Holder) (rs : List ℕ) (m : Machine) (t : Store) (ps : List Place) (ls : List Line) (w : IsWhole m) (range : IsHolder h) (many : length t.owners ≡ length m.store.owners)
    (arenas : t.arenas ≡ m.store.arenas) (held : (q : ℕ) → times q rs ≤ cond (holds m.store g q) 1 0)
    (owners : (q : ℕ) → owner t q ≡ cond (nat_lt 0 (times q rs)) (Some h) (owner m.store q)) where
  were : (q : ℕ) → nat_lt 0 (times q rs) ≡ true → owner m.store q ≡ Some g
  were q y = holder_is (owner m.store q) g (grind (arith, nat_tests, held q))

  had_bytes : (q : ℕ) → nat_lt 0 (times q rs) ≡ true → 0 < len t q
  had_bytes q y = rw (same_len m.store t q arenas) (w.full g q (grind (arith, nat_tests, held q)))

  abbrev handed : Machine
  handed = record m { store = t; places = ps; lines = ls }

  pub handed_whole : ((k : Holder) (q : ℕ) → times q (listed handed k) + has (Some g) k * times q rs ≡ times q (listed m k) + has (Some h) k * times q rs) →
      ArePlaces ps → AreChannels ls m.contracts m.opened → HaveEnds (end_of m) ls m.opened → IsWhole handed
  handed_whole lists places channels reached = came_whole (Some g) h rs m handed w (record {
    lawful = grind (arith, nat_tests, few, had_bytes, same_len, same_known, were);
    moved = record { were = were; once = λ q. grind (arith, nat_tests, held q); owners = owners; lists = lists };
    full = had_bytes;
    kept = λ q l. rw (same_len m.store t q arenas) l;
    many = many;
    ends = λ q. refl;
    bodies = refl;
    bytes = λ q. rw (same_len m.store t q arenas) (w.bytes q);
    places = places;
    channels = channels;
    reached = reached;
    opened = refl;
    depth = refl;
  })

-- ---- the bytes of one holder

-- the bytes of a holder are those of its list
listed_bytes : (m : Machine) (h : Holder) → IsWhole m → bytes_of m.store h ≡ total m.store (listed m h)
listed_bytes m h w =
    sum_same (λ r. cond (holds m.store h r) (len m.store r) 0) (λ r. times r (listed m h) * len m.store r) (numbers m.store)
    (λ r. (grind (arith, nat_tests)))
    ∙ by_number (λ r. len m.store r) (256 * length m.store.arenas) (listed m h) (λ q l. let t = held_there m h q w l in let e = w.store.long in omega (arith, t, e))

-- ---- all processes

-- the latest process of a place
latest : Machine → ℕ → ℕ
latest m k = k + 32 * (slice_index_or m.places k no_place).generation

abbrev place_bytes : Machine → ℕ → ℕ
place_bytes m k = total m.store (slice_index_or m.places k no_place).blocks.items

-- a process has the bytes of its place where it is the latest there, and none of another place
at_place : (m : Machine) (p k : ℕ) → k < 32 → cond (latest m k == p) (place_bytes m k) 0 ≡ cond ((p % 32) == k) (total m.store (blocks m p)) 0
unfolding latest
at_place m p k l = grind (arith, nat_tests)

latest_below : (m : Machine) (k : ℕ) → IsWhole m → k < 32 → latest m k < 4096
unfolding latest
latest_below m k w l =
    let small : k % 32 ≡ k = omega (arith, l) in
    let g : (slice_index_or m.places k no_place).generation < 128 = rw small at (w.places.generations k) in omega (arith, g, l)

process_bytes : (m : Machine) (a b : ℕ) → a ≡ 65504 → b ≡ 32 → IsWhole m → sum_by (λ p. total m.store (blocks m p)) (range_with_len 0 a) ≡ sum_by (λ place. total m.store place.blocks.items) m.places
process_bytes m a b e f w =
    let split : (p : ℕ) → total m.store (blocks m p) ≡ sum_by (λ k. cond (latest m k == p) (place_bytes m k) 0) (range_with_len 0 b) = λ p.
    sym (same_range (λ k. cond (latest m k == p) (place_bytes m k) 0) (λ k. cond ((p % 32) == k) (total m.store (blocks m p)) 0) 0 b (λ k l u. at_place m p k (omega (arith, u, f)))
    ∙ picked (total m.store (blocks m p)) (p % 32) 0 b (omega arith) (omega (arith, f))) in
    let joined : (k : ℕ) → 0 ≤ k → k < 0 + b → sum_by (λ p. cond (latest m k == p) (place_bytes m k) 0) (range_with_len 0 a) ≡ place_bytes m k = λ k l u.
    (let top = latest_below m k w (omega (arith, u, f)) in picked (place_bytes m k) (latest m k) 0 a (omega arith) (omega (arith, top, e))) in
    sum_same (λ p. total m.store (blocks m p)) (λ p. sum_by (λ k. cond (latest m k == p) (place_bytes m k) 0) (range_with_len 0 b)) (range_with_len 0 a) split
    ∙ (exchanged (λ p k. cond (latest m k == p) (place_bytes m k) 0) (range_with_len 0 a) (range_with_len 0 b)
    ∙ (same_range (λ k. sum_by (λ p. cond (latest m k == p) (place_bytes m k) 0) (range_with_len 0 a)) (place_bytes m) 0 b joined
    ∙ indexed (λ (place : Place). total m.store place.blocks.items) m.places no_place b (w.places.long ∙ sym f)))

-- ---- all holders

abbrev map_processes : ℕ → List Holder
map_processes a = map (λ p. Process p) (range_with_len 0 a)

abbrev map_directions : ℕ → List Holder
map_directions b = map (λ d. Direction d) (range_with_len 0 b)

holder_bytes : (m : Machine) (a b : ℕ) → a ≡ 65504 → b ≡ 128 → IsWhole m →
    sum_by (bytes_of m.store) (holders a b) ≡ sum_by (λ place. total m.store place.blocks.items) m.places + sum_by (λ line. total m.store (carried line.waiting.items)) m.lines
holder_bytes m a b e f w =
    let processes : sum_by (bytes_of m.store) (map_processes a) ≡ sum_by (λ place. total m.store place.blocks.items) m.places =
    sum_mapped (bytes_of m.store) (λ p. Process p) (range_with_len 0 a)
    ∙ (sum_same (λ p. bytes_of m.store (Process p)) (λ p. total m.store (blocks m p)) (range_with_len 0 a) (λ p. listed_bytes m (Process p) w) ∙ process_bytes m a 32 e refl w) in
    let directions : sum_by (bytes_of m.store) (map_directions b) ≡ sum_by (λ line. total m.store (carried line.waiting.items)) m.lines =
    sum_mapped (bytes_of m.store) (λ d. Direction d) (range_with_len 0 b)
    ∙ (sum_same (λ d. bytes_of m.store (Direction d)) (λ d. total m.store (on_way m d)) (range_with_len 0 b) (λ d. listed_bytes m (Direction d) w)
    ∙ indexed (λ (line : Line). total m.store (carried line.waiting.items)) m.lines no_line b (w.channels.long ∙ sym f)) in
    sum_by-append (bytes_of m.store) (map_processes a) (map_directions b) ∙ rw (processes, directions) refl

all_are : (f : Holder → ℕ) → sum_by f all_holders ≡ sum_by f (holders 65504 128)
unfolding all_holders
all_are f = refl

-- what is handed out is owned or in flight
pub out_is : (m : Machine) → IsWhole m →
    all_out m.store ≡ sum_by (λ place. total m.store place.blocks.items) m.places + sum_by (λ line. total m.store (carried line.waiting.items)) m.lines
out_is m w = total_bytes m.store w.store ∙ (all_are (bytes_of m.store) ∙ holder_bytes m 65504 128 refl refl w)
