-- A seat that has gained a record, or two at once, or looked at one.
use Rattle.xh_place.proofs.Words.{◌≡◌, ℕ, ◌<◌, ◌≤◌, List, [], ◌∷◌, ◌++◌, length, sym, ap, ◌∙◌, subst, true, eq-eqb, eqb, arith, rules, Some, None, ◌&&◌, nat_le, nat_lt, LotOf, Among, keys}
use Rattle.xh_place.proofs.Words.{value_at, put, Option, Bool}
use Rattle.xh_place.proofs.Words.{without, last_at, last_put, last_without, IsLotOf, Held, with_lots, HasNow, Body, Nothing, Data, End, bytes, content_of, fits_in, put_same, at_key, no_key}
use Rattle.xh_place.proofs.Words.{is_some, word_of, Process}
use Rattle.xh_place.proofs.Words.{◌≢◌, ◌+◌, ◌*◌, ◌%◌, ◌-◌, ◌==◌, ⊎_elim, length-append, length-replicate, replicate, refl, keys_push, Knows, SawAt, slice_index, false, dite, ℕ_discrete}
use Rattle.xh_place.proofs.Words.{append_assoc, Status, among_either, last_other, put_split, IsRecord, IsPlace, Item, is_over, item_of, option_map}
use Rattle.xh_place.specs.inner.TwoRecords.{AreMade, HasTwoMore}
use Rattle.xh_place.proofs.Steps.{gains, list_room, now_is}
use Rattle.xh_place.specs.Calls.{padded}
use Rattle.xh_place.proofs.Words.{◌/◌, Acts, HasLooked, SawFull, SawTaken, FindsFull, LetsGo, append-nil, claimed, vacated}
use Rattle.xh_place.proofs.Deeds.{acts_of, acts_twice, now_of}
use Rattle.xh_place.proofs.Listing.{unequal}
use Rattle.xh_place.proofs.Seeing.{did_starts, full_wide}

-- its lot is put back as it was
pub unmoved : (seat last : Held Body) (r : ℕ) (l : LotOf Body) → value_at r seat.lots ≡ Some l → last ≡ with_lots seat (put r l seat.lots) → last ≡ seat
unmoved seat last r l at new = new ∙ ap (with_lots seat) (put_same r l seat.lots at)

-- what a record's word says of whether its seat holds it
pub word_holds : (seat : Held Body) (r word own : ℕ) → Knows seat r word → own ≡ word_of (Some (Process seat.process)) → (word == own) ≡ is_some (value_at r seat.lots)
word_holds seat r word own knows same = go (value_at r seat.lots) refl where
  go : (o : Option (LotOf Body)) → value_at r seat.lots ≡ o → (word == own) ≡ is_some o
  go None at = unequal word own (λ e. no_key r seat.lots at (knows.1.0 (e ∙ same)))
  go (Some l) at = eq-eqb word own (knows.1.1 (at_key r l seat.lots at) ∙ sym same)

-- a claim found no record free: where a word was the seat's own, the seat holds the record
pub no_record : (arena : ℕ) (words : List ℕ) (x y : Held Body) → SawTaken arena words x y → SawFull x.process (keys x.lots) x.shape x.front y.front arena
no_record arena words x y h = λ r exists near.
    let look = h.1 (r % 256) exists.1 in let word : ℕ = slice_index words (r % 256) in
    let at : arena * 256 + r % 256 ≡ r = omega (arith, near) in (
      word,
      look.0,
      (λ own. subst (λ (q : ℕ). Among (keys x.lots) q) at (look.1.1.0 own)),
      subst (λ (q : ℕ). SawAt x.shape x.front y.front q word) at look.2,
    )

module _ (seat new : Held Body) (r : ℕ) (l : LotOf Body) (is : HasNow seat (seat.lots ++ (r, l) ∷ []) new) (fresh : Among (keys seat.lots) r → ⊥) where
  pub has : value_at r new.lots ≡ Some l
  has = ap (λ (h : Held Body). value_at r h.lots) is ∙ last_at r l seat.lots fresh

  -- its lot changed
  pub changed : (last : Held Body) (m : LotOf Body) → last ≡ with_lots new (put r m new.lots) → HasNow seat (seat.lots ++ (r, m) ∷ []) last
  changed last m then = now_of new last (put r m new.lots) then ∙ ap (λ (h : Held Body). record h { lots = put r m h.lots; front = last.front }) is
      ∙ ap (λ (ls : List (ℕ × LotOf Body)). record seat { lots = ls; front = last.front }) (last_put r l m seat.lots fresh)

  pub lot_is : IsLotOf seat.shape r l → IsLotOf new.shape r l
  lot_is = subst (λ z. IsLotOf z r l) (sym (ap (λ (h : Held Body). h.shape) is))

pub fits_bytes : (b : Body) (xs : List ℕ) (n : ℕ) → content_of b ≡ bytes xs → length xs ≡ n → 0 < n → n ≤ 134217728 → fits_in b n ≡ true
fits_bytes Nothing xs n e long some most = let same : [] ≡ xs = cc in let none : 0 ≡ n = ap length same ∙ long in absurd (omega arith)
fits_bytes (Data v) xs n e long some most = let same : v.items ≡ xs = cc in let a : eqb (length v.items) n ≡ true = eq-eqb (length v.items) n (ap length same ∙ long) in
    let b : nat_le n 134217728 ≡ true = search rules in let d : nat_lt 0 n ≡ true = search rules in (λ i. a i && (d i && b i))
fits_bytes (End p) xs n e long some most = absurd (cc)

pub padded_long : (n : ℕ) (xs : List ℕ) → length xs ≤ n → length (padded n xs) ≡ n
padded_long n xs most = let all = length-append xs (replicate (n - length xs) 0) in let zeros = length-replicate {A = ℕ} (n - length xs) 0 in omega (arith, all, zeros, most)

-- ---- a seat that let go again of what it claimed

pub none_claimed : (arena : ℕ) (also : List ℕ → Type 0) (seat last : Held Body) → also [] → HasLooked seat last → LetsGo also arena seat last
none_claimed arena also seat last h looked = ([], h, (λ r a. absurd a), acts_of [] [] seat.lots seat last looked refl)

pub one_gone : (arena : ℕ) (also : List ℕ → Type 0) (seat mid last : Held Body) (r : ℕ) (l : LotOf Body) → also (r ∷ []) → r / 256 ≡ arena
    → Acts (claimed seat.process (r ∷ [])) (seat.lots ++ (r, l) ∷ []) seat mid → (Among (keys seat.lots) r → ⊥) → Acts (vacated mid.process r) (without r mid.lots) mid last
    → LetsGo also arena seat last
one_gone arena also seat mid last r l h near is fresh then =
    let lots : without r mid.lots ≡ seat.lots = ap (λ (k : Held Body). without r k.lots) is.0 ∙ last_without r l seat.lots fresh in
    let whose : mid.process ≡ seat.process = ap (λ (k : Held Body). k.process) is.0 in
    let gone : Acts (vacated seat.process r) seat.lots mid last = subst (λ (z : ℕ × List (ℕ × LotOf Body)). Acts (vacated z.0 r) z.1 mid last) (λ i. (whose i, lots i)) then in (
      r ∷ [],
      h,
      (λ q a. ⊎_elim (λ (e : q ≡ r). subst (λ (z : ℕ). z / 256 ≡ arena) (sym e) near) (λ z. absurd z) a),
      acts_twice (claimed seat.process (r ∷ [])) (vacated seat.process r) (seat.lots ++ (r, l) ∷ []) seat.lots seat mid last is gone,
    )

-- a claim found no record free, and the seat had claimed none in the call, or one, which it then let go of
pub full_now : (arena most : ℕ) (words : List ℕ) (seat last : Held Body) → SawTaken arena words seat last → HasLooked seat last
    → FindsFull most seat last arena
full_now arena most words seat last taken looked = none_claimed arena
    (λ claims. (length claims ≤ most) × SawFull seat.process (keys seat.lots ++ claims) seat.shape seat.front last.front arena) seat last
    (omega arith, subst (λ (ks : List ℕ). SawFull seat.process ks seat.shape seat.front last.front arena) (sym (append-nil (keys seat.lots))) (no_record arena words seat last taken)) looked

pub full_after : (arena : ℕ) (words : List ℕ) (seat mid late last : Held Body) (r : ℕ) (l : LotOf Body) → r / 256 ≡ arena
    → Acts (claimed seat.process (r ∷ [])) (seat.lots ++ (r, l) ∷ []) seat mid → (Among (keys seat.lots) r → ⊥)
    → SawTaken arena words mid late → HasLooked mid late → Acts (vacated late.process r) (without r late.lots) late last → FindsFull 1 seat last arena
full_after arena words seat mid late last r l near is fresh taken looked gone =
    let keyed : keys (seat.lots ++ (r, l) ∷ []) ≡ keys seat.lots ++ r ∷ [] = keys_push seat.lots (r, l) in
    let found = subst (λ (z : Held Body). SawFull z.process (keys z.lots) z.shape mid.front late.front arena) is.0 (no_record arena words mid late taken) in
    let held : List ℕ = keys seat.lots ++ r ∷ [] in
    let full = subst (λ (ks : List ℕ). SawFull seat.process ks seat.shape mid.front late.front arena) keyed found in
    let before = did_starts seat.process (claimed seat.process (r ∷ [])) seat.front mid.front is.1 in
    let after = did_starts late.process (vacated late.process r) late.front last.front gone.1 in
    let wide = full_wide seat.process held held seat.shape mid.front late.front seat.front last.front arena (λ q a. a) before after full in
    let all : Acts (vacated late.process r) (without r late.lots) mid last =
    acts_twice [] (vacated late.process r) mid.lots (without r late.lots) mid late last (acts_of [] [] mid.lots mid late looked refl) gone in
    one_gone arena (λ claims. (length claims ≤ 1) × SawFull seat.process (keys seat.lots ++ claims) seat.shape seat.front last.front arena) seat mid last r l (omega arith, wide) near is fresh
    (subst (λ (h : Held Body). Acts (vacated h.process r) (without r h.lots) mid last) looked.0 all)

-- ---- a seat, and a place, that gained two records at once

-- with one record, and with the other too
abbrev pub with_one : Held Body → ℕ → LotOf Body → Held Body
with_one seat r l = with_lots seat (seat.lots ++ (r, l) ∷ [])

-- both lots changed in their places, and both gone
module _ (lots : List (ℕ × LotOf Body)) (r t : ℕ) (first : Among (keys lots) r → ⊥) (second : Among (keys lots) t → ⊥) (apart : r ≢ t) where
  late : (l : LotOf Body) → Among (keys (lots ++ (r, l) ∷ [])) t → ⊥
  late l h = ⊎_elim second (λ b. ⊎_elim (λ e. apart (sym e)) (λ z. z) b) (among_either (keys lots) (r ∷ []) t (subst (λ (ks : List ℕ). Among ks t) (keys_push lots (r, l)) h))

  pub both_put : (l m l' m' : LotOf Body) → put t m' (put r l' (lots ++ (r, l) ∷ (t, m) ∷ [])) ≡ lots ++ (r, l') ∷ (t, m') ∷ []
  both_put l m l' m' =
      ap (put t m') (put_split r l l' lots ((t, m) ∷ []) first ∙ sym (append_assoc lots ((r, l') ∷ []) ((t, m) ∷ [])))
      ∙ last_put t m m' (lots ++ (r, l') ∷ []) (late l') ∙ append_assoc lots ((r, l') ∷ []) ((t, m') ∷ [])

  pub both_gone : (l m : LotOf Body) → without r (without t (lots ++ (r, l) ∷ (t, m) ∷ [])) ≡ lots
  both_gone l m =
      ap (λ (z : List (ℕ × LotOf Body)). without r (without t z)) (sym (append_assoc lots ((r, l) ∷ []) ((t, m) ∷ [])))
      ∙ ap (without r) (last_without t m (lots ++ (r, l) ∷ []) (late l)) ∙ last_without r l lots first

module _ {arena : ℕ} {old new : Held Body} {r t : ℕ} {l m : LotOf Body} (two : HasTwoMore arena old new r t l m) where
  pub then_other : HasNow (with_one old r l) ((with_one old r l).lots ++ (t, m) ∷ []) new
  then_other = two.lots.0 ∙ ap (λ (ls : List (ℕ × LotOf Body)). record old { lots = ls; front = new.front }) (sym (append_assoc old.lots ((r, l) ∷ []) ((t, m) ∷ [])))

  pub other_fresh : Among (keys (with_one old r l).lots) t → ⊥
  other_fresh = late old.lots r t two.first_fresh two.second_fresh two.apart l

  -- what it has at both
  pub has_other : value_at t new.lots ≡ Some m
  has_other = has (with_one old r l) new t m then_other other_fresh

  pub has_first : value_at r new.lots ≡ Some l
  has_first = ap (λ (h : Held Body). value_at r h.lots) then_other ∙ last_other r t m (with_one old r l).lots (λ e. two.apart (sym e)) ∙ last_at r l old.lots two.first_fresh

  -- it let go of both
  pub two_gone : (last : Held Body) (also : List ℕ → Type 0) → also (r ∷ t ∷ []) → Acts (vacated new.process t ++ vacated new.process r) (without r (without t new.lots)) new last
      → LetsGo also arena old last
  two_gone last also h then =
      let lots : without r (without t new.lots) ≡ old.lots =
      ap (λ (k : Held Body). without r (without t k.lots)) two.lots.0 ∙ both_gone old.lots r t two.first_fresh two.second_fresh two.apart l m in
      let whose : new.process ≡ old.process = ap (λ (k : Held Body). k.process) two.lots.0 in
      let gone : Acts (vacated old.process t ++ vacated old.process r) old.lots new last =
      subst (λ (z : ℕ × List (ℕ × LotOf Body)). Acts (vacated z.0 t ++ vacated z.0 r) z.1 new last) (λ i. (whose i, lots i)) then in (
        r ∷ t ∷ [],
        h,
        (λ q a. ⊎_elim (λ (e : q ≡ r). subst (λ (z : ℕ). z / 256 ≡ arena) (sym e) two.first_arena)
            (λ b. ⊎_elim (λ (e : q ≡ t). subst (λ (z : ℕ). z / 256 ≡ arena) (sym e) two.second_arena) (λ z. absurd z) b) a),
        acts_twice (claimed old.process (r ∷ t ∷ [])) (vacated old.process t ++ vacated old.process r) (old.lots ++ (r, l) ∷ (t, m) ∷ []) old.lots old new last two.lots gone,
      )

module _ {seat last : Held Body} {rs : List ℕ} {room total : ℕ} {state : Status} (is : IsPlace seat.shape seat.lots rs room total state) (alive : is_over state ≡ true → ⊥)
    {arena r t : ℕ} {l m : LotOf Body} (made : AreMade arena seat last r t l m) where
  first_more : IsPlace seat.shape (seat.lots ++ (r, l) ∷ []) (rs ++ r ∷ []) room (total + l.len) state
  first_more = gains is made.first made.two.first_fresh alive

  pub room_second : length (rs ++ r ∷ []) < room
  room_second = list_room first_more made.second (other_fresh made.two)

  pub opened : IsPlace last.shape last.lots ((rs ++ r ∷ []) ++ t ∷ []) room (total + l.len + m.len) state
  opened = now_is (with_one seat r l) last (then_other made.two) (gains first_more made.second (other_fresh made.two) alive)

  -- the seat has both
  pub both_held : {low high : Item} → item_of l ≡ low → item_of m ≡ high → (option_map item_of (value_at r last.lots) ≡ Some low) × IsRecord last.shape r
      × (option_map item_of (value_at t last.lots) ≡ Some high) × IsRecord last.shape t
  both_held first second =
      let shape : seat.shape ≡ last.shape = sym (ap (λ (h : Held Body). h.shape) made.two.lots.0) in (
        ap (option_map item_of) (has_first made.two) ∙ ap (λ (z : Item). Some z) first,
        subst (λ s. IsRecord s r) shape made.first.exists,
        ap (option_map item_of) (has_other made.two) ∙ ap (λ (z : Item). Some z) second,
        subst (λ s. IsRecord s t) shape made.second.exists,
      )
