-- A block cut in two, and one in which some bytes were overwritten.
use Rattle.xh_place.proofs.Words.{◌≡◌, ◌≢◌, ℕ, ◌+◌, ◌-◌, ◌/◌, ◌<◌, ◌≤◌, List, [], ◌∷◌, ◌++◌, length, drop, take, true, refl, sym, ap, ◌∙◌, subst, arith, rules, length-take-le, length-drop, Some}
use Rattle.xh_place.proofs.Words.{None, LotOf, start, Tests, first_refusal, is_over, Status, Running, Among, keys, value_at, put, at_key, front_at, keys_push, last_put, put_keys}
use Rattle.xh_place.proofs.Words.{IsLotOf, Held, IsRecord, IsSeatOf, RecordsOf, with_lots, HasNow, CutsLot, IsData, Body, Nothing, Data, End, bytes, content_of, fits_in, head_of, kind_of, tail_of}
use Rattle.xh_place.proofs.Words.{Did, claimed, item_of, found, IsBlock, IsPlace, length-append, Shape, patched}
use Rattle.xh_model.specs.Arena.{IsGoodCut}
use Rattle.xh_place.proofs.Listing.{put_front}
use Rattle.xh_place.proofs.Deeds.{acts_lent, now_of}
use Rattle.xh_place.proofs.Gained.{fits_bytes, has}
use Rattle.xh_core.specs.declared.header.Kind.TheVariants as kind
use Rattle.std.specs.Prelude.{Err, Ok, OnErr, Option, Result, is_none, option_map}
use Rattle.xh_core.specs.Calls.{range_tests}
use Rattle.xh_core.specs.Refusing.{Tested}
use Rattle.xh_core.specs.declared.refused.Refused.{Refused}
use Rattle.xh_core.specs.declared.refused.Refused.TheVariants.{NotOwned}
use Rattle.xh_place.specs.Places.{header_of}
use Rattle.xh_place.proofs.Steps.{block_small, changes, enough, gains, now_as, now_is}
use Rattle.std.specs.Borrow.{MutBor}
use Rattle.std.specs.Fn.{CalledAtMut, Mut}
use Rattle.xh_place.specs.Calls.{bytes_in, made_of}
use Rattle.xh_place.specs.Places.{Item}

still_fresh : {X : Type 0} (r t : ℕ) (y : X) (xs : List (ℕ × X)) → (Among (keys xs) t → ⊥) → Among (keys (put r y xs)) t → ⊥
still_fresh r t y xs fresh a = fresh (subst (λ (ks : List ℕ). Among ks t) (put_keys r y xs) a)

-- the seat that claimed t, whose two lots then changed
cut_up : (seat mid last : Held Body) (r t : ℕ) (l l0 h m : LotOf Body) → HasNow seat (seat.lots ++ (t, l0) ∷ []) mid → (Among (keys seat.lots) t → ⊥) → value_at r seat.lots ≡ Some l
    → last ≡ with_lots mid (put t m (put r h mid.lots)) → HasNow seat (put r h seat.lots ++ (t, m) ∷ []) last
cut_up seat mid last r t l l0 h m is fresh at new =
    now_of mid last (put t m (put r h mid.lots)) new ∙ ap (λ (s : Held Body). record s { lots = put t m (put r h s.lots); front = last.front }) is
    ∙ ap (λ (ls : List (ℕ × LotOf Body)). record seat { lots = put t m ls; front = last.front }) (put_front r h l seat.lots ((t, l0) ∷ []) at)
    ∙ ap (λ (ls : List (ℕ × LotOf Body)). record seat { lots = ls; front = last.front }) (last_put t l0 m (put r h seat.lots) (still_fresh r t h seat.lots fresh))

-- the bytes of a data block
pub data_of : (b : Body) (n : ℕ) → kind_of (content_of b) ≡ kind.Data → fits_in b n ≡ true → (xs : List ℕ) × (content_of b ≡ bytes xs) × (length xs ≡ n) × (n ≤ 134217728)
data_of Nothing n k e = ([], refl, search rules, search rules)
data_of (Data v) n k e = (v.items, refl, search rules, search rules)
data_of (End p) n k e = absurd (cc)

-- the list and its place after the cut
pub parted : {s : Shape} {lots : List (ℕ × LotOf Body)} {xs : List ℕ} {room total : ℕ} {state : Status} {r t : ℕ} {l h m : LotOf Body} → IsPlace s lots xs room total state → (is_over state ≡ true → ⊥)
    → value_at r lots ≡ Some l → IsBlock s r h → IsBlock s t m → (Among (keys lots) t → ⊥) → h.len + m.len ≡ l.len → IsPlace s (put r h lots ++ (t, m) ∷ []) (xs ++ t ∷ []) room total state
parted {s} {lots} {xs} {room} {total} {state} {r} {t} {l} {h} {m} is alive at head tail fresh lens =
    let shorter : IsPlace s (put r h lots) xs room (total - m.len) state = changes is at head (omega (arith, enough is r at, lens)) in
    now_as (gains shorter tail (still_fresh r t h lots fresh) alive) refl refl (omega (arith, enough is r at, lens))

-- A seat that claimed t, to cut r: what it has of both
pub record Cutting (all : RecordsOf) (seat mid : Held Body) (r t : ℕ) (l l0 : LotOf Body) : Type 0 where
  pub own : IsSeatOf all mid
  pub was : value_at r seat.lots ≡ Some l
  pub head : value_at r mid.lots ≡ Some l
  pub tail : value_at t mid.lots ≡ Some l0
  pub apart : r ≢ t
  pub head_lot : IsLotOf mid.shape r l
  pub tail_lot : IsLotOf mid.shape t l0
  pub exist : IsRecord all.shape r × IsRecord all.shape t
  pub is : HasNow seat (seat.lots ++ (t, l0) ∷ []) mid

pub cutting : (all : RecordsOf) (seat mid : Held Body) (r t : ℕ) (l l0 : LotOf Body) → IsSeatOf all seat → value_at r seat.lots ≡ Some l → IsBlock seat.shape r l → IsRecord all.shape t
    → IsLotOf seat.shape t l0
    → (Among (keys seat.lots) t → ⊥) → HasNow seat (seat.lots ++ (t, l0) ∷ []) mid → Cutting all seat mid r t l l0
cutting all seat mid r t l l0 own at block exists lot fresh is = record {
  own = (ap (λ (h : Held Body). h.table) is ∙ own.0, ap (λ (h : Held Body). h.shape) is ∙ own.1);
  was = at;
  head = ap (λ (h : Held Body). value_at r h.lots) is ∙ front_at r l seat.lots ((t, l0) ∷ []) at;
  tail = has seat mid t l0 is fresh;
  apart = λ e. fresh (subst (λ (z : ℕ). Among (keys seat.lots) z) e (at_key r l seat.lots at));
  head_lot = subst (λ (h : Held Body). IsLotOf h.shape r l) (sym is) block.lot;
  tail_lot = subst (λ (h : Held Body). IsLotOf h.shape t l0) (sym is) lot;
  exist = (subst (λ s. IsRecord s r) own.1 block.exists, exists);
  is = is;
}

pub is_cut : (all : RecordsOf) (seat mid last : Held Body) (r t k : ℕ) (l l0 h m : LotOf Body) (b : Body) → Cutting all seat mid r t l l0
    → (Among (keys seat.lots) t → ⊥) → IsBlock seat.shape r l
    → IsLotOf seat.shape t l0 → IsRecord seat.shape t → IsData l → IsGoodCut k l.len → t / 256 ≡ r / 256
    → h ≡ record l { len = k; body = h.body } → content_of h.body ≡ head_of k (content_of l.body) → m ≡ record l0 { len = l.len - k; body = b } → content_of b ≡ tail_of k (content_of l.body)
    → last ≡ with_lots mid (put t m (put r h mid.lots)) → Did seat.process (claimed seat.process (t ∷ [])) seat.front mid.front → CutsLot seat last r k l t
is_cut all seat mid last r t k l l0 h m b c fresh block lot exists held good arena head head_bytes tail tail_bytes new acted =
    let d = data_of l.body l.len held.0 held.1 in let xs : List ℕ = d.0 in
    let long : length xs ≡ l.len = d.2 in let most : l.len ≤ 134217728 = d.3 in let below : k < l.len = good.2 in let some : 0 < k = good.0 in
    let h_len : h.len ≡ k = ap (λ (z : LotOf Body). z.len) head in let m_len : m.len ≡ l.len - k = ap (λ (z : LotOf Body). z.len) tail in
    let h_bytes : content_of h.body ≡ bytes (take k xs) = head_bytes ∙ ap (head_of k) d.1 in
    let body : m.body ≡ b = ap (λ (z : LotOf Body). z.body) tail in
    let m_bytes : content_of m.body ≡ bytes (drop k xs) = ap content_of body ∙ tail_bytes ∙ ap (tail_of k) d.1 in
    let h_long : length (take k xs) ≡ h.len = length-take-le k xs (omega arith) ∙ sym h_len in
    let m_long : length (drop k xs) ≡ m.len = length-drop k xs ∙ ap (λ (n : ℕ). n - k) long ∙ sym m_len in (
      h,
      m,
      fresh,
      (cut_up seat mid last r t l l0 h m c.is fresh c.was new, (acts_lent (claimed seat.process (t ∷ [])) (seat.lots ++ (t, l0) ∷ []) (put t m (put r h mid.lots)) seat mid last (c.is, acted) new).1),
      record {
        exists = block.exists;
        lot = (ap (λ (z : LotOf Body). z.index) head ∙ block.lot.0, block.lot.1 ∙ ap (λ (z : LotOf Body). Some z.id) (sym head));
        full =
            (omega arith, fits_bytes h.body (take k xs) h.len h_bytes h_long (omega arith) (omega arith));
      },
      record {
        exists = exists;
        lot = (ap (λ (z : LotOf Body). z.index) tail ∙ lot.0, lot.1 ∙ ap (λ (z : LotOf Body). Some z.id) (sym tail));
        full =
            (omega arith, fits_bytes m.body (drop k xs) m.len m_bytes m_long (omega arith) (omega arith));
      },
      h_len,
      omega arith,
      head_bytes,
      ap content_of body ∙ tail_bytes,
      arena,
    )

-- a call that its tests let through is by a process that runs
pub runs : (s : Status) (tests : Tests) → first_refusal (start s ++ tests) ≡ None → s ≡ Running
runs Running tests e = refl
runs s tests e = absurd (cc)

weaker : {A : Type 0} {P Q : A → Type 0} (ts us : Tests) (result : Result A Refused) → first_refusal us ≡ first_refusal ts → Tested ts result P → ((a : A) → P a → Q a) → Tested us result Q
weaker ts us (Ok a) e (fine, is) gives = (e ∙ fine, gives a is)
weaker ts us (Err refused) e is gives = e ∙ is

-- a call on bytes of a block of the seat is refused as the block's own tests say
pub tested_range : {A : Type 0} (s : Status) (seat : Held Body) (r : ℕ) {l : LotOf Body} (at n : ℕ) (result : Result A Refused) {P Q : A → Type 0}
    → first_refusal (start s ++ (is_none (found seat r), NotOwned) ∷ []) ≡ None → value_at r seat.lots ≡ Some l → Tested (range_tests (Some (header_of (item_of l))) at n) result P
    → ((a : A) → P a → Q a) → Tested (start s ++ range_tests (found seat r) at n) result Q
tested_range s seat r {l} at n result fine is tests gives =
    let e : first_refusal (start s ++ range_tests (found seat r) at n) ≡ first_refusal (range_tests (Some (header_of (item_of l))) at n)
    = ap (λ (z : Status). first_refusal (start z ++ range_tests (found seat r) at n)) (runs s ((is_none (found seat r), NotOwned) ∷ []) fine)
    ∙ ap (λ (o : Option (LotOf Body)). first_refusal (range_tests (option_map header_of (option_map item_of o)) at n)) is in
    weaker (range_tests (Some (header_of (item_of l))) at n) (start s ++ range_tests (found seat r) at n) result e tests gives

-- ---- a block in which some bytes were overwritten

patch_long : (at : ℕ) (ys xs : List ℕ) → at + length ys ≤ length xs → length (take at xs ++ (ys ++ drop (at + length ys) xs)) ≡ length xs
patch_long at ys xs fits =
    let a : length (take at xs) ≡ at = length-take-le at xs (omega arith) in
    let b : length (drop (at + length ys) xs) ≡ length xs - (at + length ys) = length-drop (at + length ys) xs in
    let c : length (ys ++ drop (at + length ys) xs) ≡ length ys + length (drop (at + length ys) xs) = length-append ys (drop (at + length ys) xs) in
    let d : length (take at xs ++ (ys ++ drop (at + length ys) xs)) ≡ length (take at xs) + length (ys ++ drop (at + length ys) xs) = length-append (take at xs) (ys ++ drop (at + length ys) xs) in
    omega arith

-- another body of the same length
pub another : {s : Shape} {r : ℕ} {l m : LotOf Body} → IsBlock s r l → m ≡ record l { body = m.body } → fits_in m.body m.len ≡ true → m.len ≡ l.len → IsBlock s r m
another {s} {r} {l} {m} block lot fits len = record {
  exists = block.exists;
  lot = (ap (λ (z : LotOf Body). z.index) lot ∙ block.lot.0, block.lot.1 ∙ ap (λ (z : LotOf Body). Some z.id) (sym lot));
  full = (omega (arith, len, block.full.0), fits);
}

-- the block with these bytes there
pub is_patched : {s : Shape} {r : ℕ} (at : ℕ) (ys : List ℕ) {l m : LotOf Body} → IsBlock s r l → IsData l → at + length ys ≤ l.len → m ≡ record l { body = m.body }
    → content_of m.body ≡ patched at ys (content_of l.body) → IsBlock s r m × (m.len ≡ l.len) × (item_of m ≡ record (item_of l) { content = patched at ys (content_of l.body) })
is_patched {s} {r} at ys {l} {m} block held fits lot content =
    let d = data_of l.body l.len held.0 held.1 in let xs : List ℕ = d.0 in
    let long : length xs ≡ l.len = d.2 in let most : l.len ≤ 134217728 = d.3 in let len : m.len ≡ l.len = ap (λ (z : LotOf Body). z.len) lot in
    let room : at + length ys ≤ length xs = omega (arith, fits, long) in let some : 0 < l.len = block.full.0 in
    let new : content_of m.body ≡ bytes (take at xs ++ (ys ++ drop (at + length ys) xs)) = content ∙ ap (patched at ys) d.1 in
    let new_long : length (take at xs ++ (ys ++ drop (at + length ys) xs)) ≡ m.len = patch_long at ys xs room ∙ long ∙ sym len in (
      another block lot (fits_bytes m.body (take at xs ++ (ys ++ drop (at + length ys) xs)) m.len new new_long (omega (arith, len, some)) (omega (arith, len, most))) len,
      len,
      (λ i. record { len = len i; content = content i }),
    )

-- what a write leaves: the bytes stand in the block, or the seat is as it was
pub overwritten : {A : Type 0} (at : ℕ) (ys : List ℕ) (result : Result A Refused) (seat last : Held Body) (r : ℕ) {xs : List ℕ} {room total : ℕ} {state : Status} {l : LotOf Body}
    → IsPlace seat.shape seat.lots xs room total state → value_at r seat.lots ≡ Some l
    → Tested (range_tests (Some (header_of (item_of l))) at (length ys)) result (λ _. IsData l × (at + length ys ≤ l.len)
    × ((m : LotOf Body) × (m ≡ record l { body = m.body }) × (content_of m.body ≡ patched at ys (content_of l.body)) × (last ≡ with_lots seat (put r m seat.lots))))
    → OnErr result (last ≡ seat)
    → IsPlace last.shape last.lots xs room total state × Tested (range_tests (Some (header_of (item_of l))) at (length ys)) result
    (λ _. (m : LotOf Body) × (item_of m ≡ record (item_of l) { content = patched at ys (content_of l.body) }) × (last ≡ with_lots seat (put r m seat.lots)))
overwritten at ys (Ok a) seat last r {xs} {room} {total} {state} {l} is held (fine, (kinds, fits, (m, lot, content, new))) none =
    let p = is_patched at ys (is.whole r l held) kinds fits lot content in
    (now_is seat last (now_of seat last (put r m seat.lots) new) (changes is held p.0 (omega (arith, p.1))), (fine, (m, p.2, new)))
overwritten at ys (Err refused) seat last r is held tests unmoved = (now_is seat last (now_of seat last seat.lots unmoved) is, tests)

-- the same of what a function left there
pub lent : {F A : Type 0} (g : Mut F (MutBor (List ℕ) × Unit {0}) (A × (MutBor (List ℕ) × Unit {0}))) (from to : F) (result : Result A Refused) (seat last : Held Body) (r : ℕ)
    {xs : List ℕ} {room total : ℕ} {state : Status} {l : LotOf Body} → IsPlace seat.shape seat.lots xs room total state → value_at r seat.lots ≡ Some l
    → Tested (range_tests (Some (header_of (item_of l))) 0 0) result (λ a. (item_of l ≡ made_of (bytes_in (content_of l.body)))
    × ((m : LotOf Body) × CalledAtMut g from (bytes_in (content_of l.body)) a to (bytes_in (content_of m.body)) × (m ≡ record l { body = m.body })
    × (item_of m ≡ made_of (bytes_in (content_of m.body))) × (last ≡ with_lots seat (put r m seat.lots))))
    → OnErr result (last ≡ seat)
    → IsPlace last.shape last.lots xs room total state × Tested (range_tests (Some (header_of (item_of l))) 0 0) result
    (λ a. (shown : List ℕ) × (m : LotOf Body) × (item_of l ≡ made_of shown) × CalledAtMut g from shown a to (bytes_in (content_of m.body)) × (item_of m ≡ made_of (bytes_in (content_of m.body)))
    × (m.len ≡ length shown) × (last ≡ with_lots seat (put r m seat.lots)))
lent g from to (Ok a) seat last r {xs} {room} {total} {state} {l} is held (fine, (whole, (m, called, lot, full, new))) none =
    let block = is.whole r l held in let most = block_small block in let len : m.len ≡ l.len = ap (λ (z : LotOf Body). z.len) lot in
    let long : m.len ≡ length (bytes_in (content_of m.body)) = ap (λ (z : Item). z.len) full in let was : l.len ≡ length (bytes_in (content_of l.body)) = ap (λ (z : Item). z.len) whole in
    let fits = fits_bytes m.body (bytes_in (content_of m.body)) m.len (ap (λ (z : Item). z.content) full) (sym long) (omega (arith, len, block.full.0)) (omega (arith, len, most)) in
    (now_is seat last (now_of seat last (put r m seat.lots) new) (changes is held (another block lot fits len) (omega (arith, len))), (fine, (_, m, whole, called, full, len ∙ was, new)))
lent g from to (Err refused) seat last r is held tests unmoved = (now_is seat last (now_of seat last seat.lots unmoved) is, tests)
