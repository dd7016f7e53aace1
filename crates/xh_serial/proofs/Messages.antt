-- A give and a take leave a whole machine.
use Rattle.xh_serial.proofs.Common.{place, Bool, Direction, Holder, InStep, IsSome, IsValid, IsWhole, Line, List, Machine, MayGive, MayTake, Message, None, Option, Process, Row, Some, []}
use Rattle.xh_serial.proofs.Common.{accept_all, allowed, ap, append-nil, arith, at_set, blocks, carried, cond, contract_of, count_append, end_of}
use Rattle.xh_serial.proofs.Common.{false, false≢true, flat_map-append, front_message, front_step, get_or-set_other, get_or-set_same, given, has_twice, holds, length, length-append}
use Rattle.xh_serial.proofs.Common.{length-set, line, list_all, list_any, listed, nat_lt, nat_tests, next_state, no_line, no_message, on_way, pass_all, peer, put_line, put_step}
use Rattle.xh_serial.proofs.Common.{refl, remove, slice_index_or, slice_set, subst, sym, tags_of, take_step, taken, taken_line, times, times-cons, told_line, toward, true, unwrap_or}
use Rattle.xh_serial.proofs.Common.{waiting, without_records, ℕ, ◌%◌, ◌*◌, ◌++◌, ◌+◌, ◌-◌, ◌/◌, ◌<◌, ◌==◌, ◌∙◌, ◌∷◌, ◌≡◌, ◌≢◌, ◌≤◌}
use Rattle.xh_model.specs.Rows.{IsFrontAllowed}
use Rattle.xh_serial.proofs.Accepting.{Went, accepted_all, passed_all}
use Rattle.xh_serial.proofs.Room.{handed_whole, has, room}
use Rattle.xh_serial.proofs.Machines.{busy_place, current_blocks, current_generation, current_range, list_set, peer_half, peer_ne, place_there, places_set, runs_busy, way_else, way_here}
use Rattle.xh_serial.proofs.Wired.{IsPair, half_apart, put_numbered, same_lines, set_numbered, set_reached, taken_numbered, wired_pair}

pub any_times : (q : ℕ) (bs : List ℕ) → list_any (λ b. b == q) bs ≡ nat_lt 0 (times q bs)
any_times q [] = refl
any_times q (b ∷ bs) = grind (arith, nat_tests, times-cons q b bs, any_times q bs)

-- the list without them has none of them, and the others as often as before
pub times_without : (q : ℕ) (bs rs : List ℕ) → times q (without_records bs rs) ≡ cond (nat_lt 0 (times q bs)) 0 (times q rs)
times_without q bs [] = grind (arith, nat_tests)
times_without q bs (r ∷ rs) = grind (arith, nat_tests, times-cons q r rs, times-cons q r (without_records bs rs), times_without q bs rs, any_times r bs)

-- distinct records that all pass a test
pub distinct_pass : (test : ℕ → Bool) (bs : List ℕ) → list_all test bs ≡ true → has_twice bs ≡ false → (q : ℕ) → times q bs ≤ cond (test q) 1 0
distinct_pass test [] a t q = omega arith
distinct_pass test (b ∷ bs) a t q = grind (arith, nat_tests, times-cons q b bs, distinct_pass test bs, any_times b bs)

-- ---- the contract

tags_append : (ms : List Message) (m : Message) → tags_of (ms ++ m ∷ []) ≡ tags_of ms ++ m.tag ∷ []
tags_append [] m = refl
tags_append (k ∷ ms) m = ap (λ (xs : List ℕ). k.tag ∷ xs) (tags_append ms m)

some_of : (o : Option ℕ) → IsSome o → (k : ℕ) × (o ≡ Some k)
some_of o h = grind (arith, nat_tests)

-- the end that puts a message is in step again
give_pair : (rows : List Row) (lines new : List Line) (d tag : ℕ) (bs : List ℕ) → IsValid rows → IsSome (allowed rows (slice_index_or lines d no_line).state tag (d % 2)) →
    slice_index_or new d no_line ≡ told_line (Some rows) (d % 2) tag (slice_index_or lines d no_line) →
    slice_index_or new (peer d) no_line ≡ put_line tag bs (slice_index_or lines (peer d) no_line) → IsPair rows lines d → IsPair rows new d
give_pair rows lines new d tag bs valid free lo hi pair =
    let mine : Line = slice_index_or lines d no_line in
    let theirs : Line = slice_index_or lines (peer d) no_line in
    let row = some_of (allowed rows mine.state tag (d % 2)) free in
    let next : unwrap_or (allowed rows mine.state tag (d % 2)) mine.state ≡ row.0 = ap (λ (o : Option ℕ). unwrap_or o mine.state) row.1 in
    let step : InStep rows (d % 2) row.0 (tags_of mine.waiting.items) theirs.state (tags_of theirs.waiting.items ++ tag ∷ []) =
    put_step rows (d % 2) mine.state tag row.0 theirs.state (tags_of mine.waiting.items) (tags_of theirs.waiting.items) valid pair row.1 in
    let more : tags_of (put_line tag bs theirs).waiting.items ≡ tags_of theirs.waiting.items ++ tag ∷ [] = tags_append theirs.waiting.items _ in
    grind (arith, nat_tests, same_lines)

module _ (m : Machine) (p e tag : ℕ) (bs : List ℕ) (w : IsWhole m) (g : MayGive m p e tag bs (toward m e)) where
  abbrev own : ℕ
  own = toward m e

  abbrev d : ℕ
  d = peer (toward m e)

  abbrev z : Line
  z = told_line (contract_of m.contracts own) (own % 2) tag (line m.lines own)

  abbrev y : Line
  y = put_line tag bs (line m.lines d)

  abbrev told : List Line
  told = slice_set m.lines own z

  abbrev n : Machine
  n = given p e tag bs m

  held : (q : ℕ) → times q bs ≤ cond (holds m.store (Process p) q) 1 0
  held = distinct_pass (λ q. holds m.store (Process p) q) bs g.held g.once

  below : d < 2 * m.opened
  below = let h = peer_half own in omega (arith, h, g.within)

  range : d < 128
  range = let a = below in let b = w.channels.few in omega (arith, a, b)

  own_there : own < length m.lines
  own_there = let a = w.channels.long in let b = w.channels.few in let c = g.within in omega (arith, a, b, c)

  there : d < length told
  there = let a = w.channels.long in let b = range in let c : length told ≡ length m.lines = length-set m.lines own z in omega (arith, a, b, c)

  passed : Went (Direction d) bs m.store (pass_all p d bs m.store)
  passed = passed_all p d bs m.store range held (w.full (Process p))

  left : (q : ℕ) → times q (without_records bs (blocks m p)) + times q bs ≡ times q (blocks m p)
  left q = grind (arith, nat_tests, times_without q bs (blocks m p), w.once (Process p) q, held q)

  way : carried y.waiting.items ≡ on_way m d ++ bs
  way = flat_map-append (λ (k : Message). k.blocks.items) (waiting m d) _ ∙ ap (λ xs. on_way m d ++ xs) (append-nil bs)

  -- the direction toward the giver carries what it carried
  told_way : (k : ℕ) → carried (slice_index_or told k no_line).waiting.items ≡ on_way m k
  told_way k = grind (arith, nat_tests, way_here, own_there, way_else)

  lists : (k : Holder) (q : ℕ) → times q (listed n k) + has (Some (Process p)) k * times q bs ≡ times q (listed m k) + has (Some (Direction d)) k * times q bs
  unfolding given
  lists (Process k) q = grind (arith, nat_tests, list_set m.places p (without_records bs (blocks m p)) (place_there m p w) (current_generation m p g.runs.0) k, left q)
  lists (Direction k) q = grind (arith, nat_tests, at_set told d k y no_line there, told_way k, ap (times q) way, count_append q (on_way m d) bs)

  other_lines : (k : ℕ) → k ≢ own → k ≢ d → slice_index_or (slice_set told d y) k no_line ≡ line m.lines k
  other_lines k a b = get_or-set_other told d k y no_line b ∙ get_or-set_other m.lines own k z no_line a

  pub given_whole : IsWhole n
  unfolding given
  given_whole = handed_whole (Process p) (Direction d) bs m n.store n.places (slice_set told d y) w range passed.many passed.arenas held passed.owners lists
      (places_set m.places p _ w.places (busy_place m p (without_records bs (blocks m p)) w (runs_busy m p g.runs))) (record {
        long = length-set told d y ∙ (length-set m.lines own z ∙ w.channels.long);
        fresh = λ k l. other_lines k (λ s. let c = g.within in omega (arith, c, l, s)) (λ s. let c = below in omega (arith, c, l, s)) ∙ w.channels.fresh k l;
        numbered = set_numbered told d y there (set_numbered m.lines own z own_there w.channels.numbered (w.channels.numbered own)) (put_numbered tag bs (line m.lines d) (w.channels.numbered d));
        contracts_long = w.channels.contracts_long;
        wired = wired_pair m.contracts m.lines (slice_set told d y) own w.channels.wired (λ rows is valid pair. give_pair rows m.lines (slice_set told d y) own tag bs valid
            (subst (λ (o : Option (List Row)). IsSome (next_state o (own % 2) (line m.lines own).state tag)) is g.allowed)
            (get_or-set_other told d own y no_line (λ s. peer_ne own (sym s)) ∙ get_or-set_same m.lines own z no_line own_there
            ∙ ap (λ (o : Option (List Row)). told_line o (own % 2) tag (line m.lines own)) is)
            (get_or-set_same told d y no_line there) pair)
            (λ k h. other_lines k (half_apart own k h) (λ s. h (ap (λ (i : ℕ). i / 2) s ∙ peer_half own)));
        few = w.channels.few;
      })
      (set_reached (end_of m) told m.opened d y there (grind (arith, nat_tests, get_or-set_other, peer_ne)) (λ s. absurd (false≢true (sym g.not_shut ∙ s)))
      (set_reached (end_of m) m.lines m.opened own z own_there refl (w.reached.drained own) w.reached))

-- ---- take

pub front_split : (ms : List Message) → 0 < length ms → carried ms ≡ (slice_index_or ms 0 no_message).blocks.items ++ carried (remove ms 0)
front_split ms h = grind (arith, nat_tests)

front_tags : (ms : List Message) → 0 < length ms → tags_of ms ≡ (slice_index_or ms 0 no_message).tag ∷ tags_of (remove ms 0)
front_tags ms h = grind (arith, nat_tests)

abbrev front_tag : Line → ℕ
front_tag l = (slice_index_or l.waiting.items 0 no_message).tag

-- the list of the taker has room for the records of the front message
pub taken_room : (m : Machine) (p e : ℕ) → IsWhole m → MayTake m p e (toward m e) → length (place m.places p).blocks.items + length (front_message m e).blocks.items ≤ 2048
taken_room m p e w t =
    let rest : List ℕ = carried (remove (waiting m (toward m e)) 0) in
    let all : length (blocks m p) + length (on_way m (toward m e)) ≤ 2048 = room m p (Some (toward m e)) w in
    let way : length (on_way m (toward m e)) ≡ length (front_message m e).blocks.items + length rest = grind (arith, nat_tests, front_split, length-append) in
    let a : length (place m.places p).blocks.items ≡ length (blocks m p) = ap length (sym (current_blocks m p t.runs.0)) in
    omega (arith, all, way, a)

-- the end that takes the front message is in step again
take_pair : (rows : List Row) (lines new : List Line) (d : ℕ) → 0 < length (slice_index_or lines d no_line).waiting.items →
    slice_index_or new d no_line ≡ taken_line (Some rows) (1 - d % 2) (front_tag (slice_index_or lines d no_line)) (slice_index_or lines d no_line) →
    slice_index_or new (peer d) no_line ≡ slice_index_or lines (peer d) no_line → IsPair rows lines d → IsPair rows new d
take_pair rows lines new d some lo hi pair =
    let l : Line = slice_index_or lines d no_line in
    let tag : ℕ = front_tag l in
    let rest : List ℕ = tags_of (remove l.waiting.items 0) in
    let split : tags_of l.waiting.items ≡ tag ∷ rest = front_tags l.waiting.items some in
    let other : Line = slice_index_or lines (peer d) no_line in
    let s = take_step rows (d % 2) l.state tag other.state rest (tags_of other.waiting.items)
    (subst (λ (xs : List ℕ). InStep rows (d % 2) l.state xs other.state (tags_of other.waiting.items)) split pair) in
    let next : unwrap_or (allowed rows l.state tag (1 - d % 2)) l.state ≡ s.0 = ap (λ (o : Option ℕ). unwrap_or o l.state) s.1 in
    grind (arith, nat_tests, same_lines)

module _ (m : Machine) (p e : ℕ) (w : IsWhole m) (t : MayTake m p e (toward m e)) where
  abbrev way_d : ℕ
  way_d = toward m e

  abbrev came : List ℕ
  came = (front_message m e).blocks.items

  abbrev shorter : Line
  shorter = taken_line (contract_of m.contracts way_d) (1 - way_d % 2) (front_message m e).tag (line m.lines way_d)

  abbrev later : Machine
  later = taken p e m

  split : (q : ℕ) → times q (carried (remove (waiting m way_d) 0)) + times q came ≡ times q (on_way m way_d)
  split q = let s = ap (times q) (front_split (waiting m way_d) t.some) in let k = count_append q came (carried (remove (waiting m way_d) 0)) in omega (arith, s, k)

  way_there : way_d < length m.lines
  way_there = let a = w.channels.long in let b = w.channels.few in let c = t.within in omega (arith, a, b, c)

  came_once : (q : ℕ) → times q came ≤ cond (holds m.store (Direction way_d) q) 1 0
  came_once q = let s = split q in let o = w.once (Direction way_d) q in omega (arith, s, o)

  accepted : Went (Process p) came m.store (accept_all p way_d came m.store)
  accepted = accepted_all p way_d came m.store (current_range m p w t.runs.0) came_once

  taken_lists : (k : Holder) (q : ℕ) → times q (listed later k) + has (Some (Direction way_d)) k * times q came ≡ times q (listed m k) + has (Some (Process p)) k * times q came
  unfolding taken
  taken_lists (Process k) q = grind (arith, nat_tests, list_set m.places p (blocks m p ++ came) (place_there m p w) (current_generation m p t.runs.0) k, count_append q (blocks m p) came)
  taken_lists (Direction k) q = grind (arith, nat_tests, at_set m.lines way_d k shorter no_line way_there, split q)

  pub taken_whole : IsWhole later
  unfolding taken
  taken_whole = handed_whole (Direction way_d) (Process p) came m later.store later.places (slice_set m.lines way_d shorter) w (current_range m p w t.runs.0)
      accepted.many accepted.arenas came_once accepted.owners taken_lists
      (places_set m.places p _ w.places (busy_place m p (blocks m p ++ came) w (runs_busy m p t.runs))) (record {
        long = length-set m.lines way_d shorter ∙ w.channels.long;
        fresh = λ k l. get_or-set_other m.lines way_d k shorter no_line (λ s. let c = t.within in omega (arith, c, l, s)) ∙ w.channels.fresh k l;
        numbered = set_numbered m.lines way_d shorter way_there w.channels.numbered
            (taken_numbered (contract_of m.contracts way_d) (1 - way_d % 2) (front_message m e).tag (line m.lines way_d) t.some (w.channels.numbered way_d));
        contracts_long = w.channels.contracts_long;
        wired = wired_pair m.contracts m.lines (slice_set m.lines way_d shorter) way_d w.channels.wired (λ rows is valid pair. take_pair rows m.lines (slice_set m.lines way_d shorter) way_d t.some
            (get_or-set_same m.lines way_d shorter no_line way_there ∙ ap (λ (o : Option (List Row)). taken_line o (1 - way_d % 2) (front_message m e).tag (line m.lines way_d)) is)
            (get_or-set_other m.lines way_d (peer way_d) shorter no_line (peer_ne way_d)) pair)
            (λ k h. get_or-set_other m.lines way_d k shorter no_line (half_apart way_d k h));
        few = w.channels.few;
      })
      (set_reached (end_of m) m.lines m.opened way_d shorter way_there refl (λ s. ap (λ (ms : List Message). remove ms 0) (w.reached.drained way_d s)) w.reached)

  -- the front message is one that the contract allows
  pub front_allowed : (o : Option (List Row)) → contract_of m.contracts way_d ≡ o → IsSome (next_state o (1 - way_d % 2) (line m.lines way_d).state (front_message m e).tag)
  front_allowed None is = refl
  front_allowed (Some rows) is =
      let pair : IsPair rows m.lines way_d = (w.channels.wired way_d rows is).1 in
      subst (IsFrontAllowed rows (way_d % 2) (line m.lines way_d).state) (front_tags (waiting m way_d) t.some) (front_step rows (way_d % 2) _ _ _ _ pair)
