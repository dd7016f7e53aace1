-- What a look shows of a vault's books, and that each change keeps them.
use Rattle.xh_arena.proofs.Common.{nat_tests, ◌++◌, ◌≡◌, ℕ, zero, suc, ◌+◌, ◌-◌, ◌≤◌, ◌<◌, List, [], ◌∷◌, length, map, set, Some, refl, sym, ap, ◌∙◌, subst, arith, slice_get, slice_set, Part}
use Rattle.xh_arena.proofs.Common.{Books, Length, Moved, weigh, whole, AreOfOneWhole, part_in, below, under, with_length, with_taken, with_back, IsGoodCut, lengths_of, length_is, LotOf, VaultOf}
use Rattle.xh_arena.proofs.Common.{Move, AreSummed, Booked, moved_part, moves_of, back_of, workers_of, vault_parts, booked, Balanced}
use Rattle.xh_arena.specs.Sharing.{IsLotOfArena}
use Rattle.xh_arena.proofs.Weights.{weigh-append, weigh-set, weigh-at, weigh-none, weigh_sum}
use Rattle.xh_arena.proofs.Wholes.{weigh-whole, weigh-listed, listed-none, lot_stands, tally_stands, books_stand}

lot_shown : (i x : ℕ) (ls : List ℕ) (t b k : ℕ) (rest : List Part) → AreOfOneWhole (Length i x ∷ Books ls t b k ∷ rest) → slice_get ls i ≡ Some x
lot_shown i x ls t b k rest f =
    let v = Length i x ∷ Books ls t b k ∷ rest in
    let same = books_stand v f.0 f.1 ls t b k (λ h. omega arith) in
    let listed : f.1.0 ≡ ls = cc in
    subst (λ (ms : List ℕ). slice_get ms i ≡ Some x) listed (lot_stands v f.0 f.1 i x (λ h. omega arith))

tally_shown : (j x y : ℕ) (ls : List ℕ) (t b k : ℕ) (rest : List Part) → AreOfOneWhole (Moved j x y ∷ Books ls t b k ∷ rest) → (x ≤ t) × (y ≤ b)
tally_shown j x y ls t b k rest f =
    let v = Moved j x y ∷ Books ls t b k ∷ rest in
    let same = books_stand v f.0 f.1 ls t b k (λ h. omega arith) in
    let at = tally_stands v f.0 f.1 j x y (λ h. omega arith) in
    let T : weigh (λ (u : ℕ × ℕ). u.0) f.1.1 ≡ t = cc in
    let B : weigh (λ (u : ℕ × ℕ). u.1) f.1.1 ≡ b = cc in
    (omega (arith, weigh-at (λ (u : ℕ × ℕ). u.0) f.1.1 j (x, y) at), omega (arith, weigh-at (λ (u : ℕ × ℕ). u.1) f.1.1 j (x, y) at))

moves_weigh : (h : Part → ℕ) (g : Move → ℕ) → ((m : Move) → h (moved_part m) ≡ g m) → (ms : List Move) → weigh h (map moved_part ms) ≡ weigh g ms
moves_weigh h g e [] = refl
moves_weigh h g e (m ∷ ms) = omega (arith, e m, moves_weigh h g e ms)

weigh-ones : {X : Type 0} (xs : List X) → weigh (λ (x : X). 1) xs ≡ length xs
weigh-ones [] = refl
weigh-ones (x ∷ xs) = omega (arith, weigh-ones xs)

abbrev one_tally : Part → ℕ
one_tally (Moved j x y) = 1
one_tally _ = 0

abbrev taken_in : Part → ℕ
taken_in (Moved j x y) = x
taken_in _ = 0

abbrev back_in : Part → ℕ
back_in (Moved j x y) = y
back_in _ = 0

taken_none : (p : Part) → one_tally p ≡ 0 → taken_in p ≡ 0
taken_none p e = grind (arith, nat_tests)

back_none : (p : Part) → one_tally p ≡ 0 → back_in p ≡ 0
back_none p e = grind (arith, nat_tests)

-- what a weight of tallies alone says of a whole, and of tallies that were collected
module _ (h : Part → ℕ) (g : ℕ × ℕ → ℕ) (m : Move → ℕ) (zl : (r n : ℕ) → h (Length r n) ≡ 0) (zb : (ls : List ℕ) (t b k : ℕ) → h (Books ls t b k) ≡ 0)
    (eg : (j : ℕ) (u : ℕ × ℕ) → h (Moved j u.0 u.1) ≡ g u) (em : (x : Move) → h (moved_part x) ≡ m x) where
  whole_weighs : (ls : List ℕ) (ts : List (ℕ × ℕ)) → weigh h (whole ls ts) ≡ weigh g ts
  whole_weighs ls ts = grind (arith, nat_tests, weigh-whole, listed-none, weigh-listed)

  weighs : (v : List Part) (ls : List ℕ) (t b k : ℕ) (ms : List Move) (f : AreOfOneWhole (v ++ vault_parts ls t b k ms)) → weigh h v + weigh m ms + weigh h f.0 ≡ weigh g f.1.1
  weighs v ls t b k ms f = omega (arith, f.1.2 h, whole_weighs f.1.0 f.1.1, weigh-append h v (vault_parts ls t b k ms), zb ls t b k, moves_weigh h m em ms)

-- while a tally is elsewhere, not all were collected
one_shown : (j x y : ℕ) (ls : List ℕ) (t b k : ℕ) (ms : List Move) → AreOfOneWhole (Moved j x y ∷ vault_parts ls t b k ms) → length ms < k
one_shown j x y ls t b k ms f =
    let same = books_stand (Moved j x y ∷ vault_parts ls t b k ms) f.0 f.1 ls t b k (λ h. omega arith) in
    let K : length f.1.1 ≡ k = cc in
    omega (arith, weighs one_tally (λ _. 1) (λ _. 1) (λ _ _. refl) (λ _ _ _ _. refl) (λ _ _. refl) (λ _. refl) (Moved j x y ∷ []) ls t b k ms f, weigh-ones f.1.1, weigh-ones ms)

all_shown : (ls : List ℕ) (t b k : ℕ) (ms : List Move) → AreOfOneWhole (vault_parts ls t b k ms) → length ms ≡ k → (weigh (λ (m : Move). m.taken) ms ≡ t) × (weigh (λ (m : Move). m.back) ms ≡ b)
all_shown ls t b k ms f all =
    let same = books_stand (vault_parts ls t b k ms) f.0 f.1 ls t b k (λ h. omega arith) in
    let ts = f.1.1 in
    let T : weigh (λ (u : ℕ × ℕ). u.0) ts ≡ t = cc in
    let B : weigh (λ (u : ℕ × ℕ). u.1) ts ≡ b = cc in
    let K : length ts ≡ k = cc in
    let none : weigh one_tally f.0 ≡ 0 =
    omega (arith, weighs one_tally (λ _. 1) (λ _. 1) (λ _ _. refl) (λ _ _ _ _. refl) (λ _ _. refl) (λ _. refl) [] ls t b k ms f, weigh-ones ts, weigh-ones ms) in
    let taken = weighs taken_in (λ u. u.0) (λ m. m.taken) (λ _ _. refl) (λ _ _ _ _. refl) (λ _ _. refl) (λ _. refl) [] ls t b k ms f in
    let back = weighs back_in (λ u. u.1) (λ m. m.back) (λ _ _. refl) (λ _ _ _ _. refl) (λ _ _. refl) (λ _. refl) [] ls t b k ms f in
    (omega (arith, weigh-none one_tally taken_in taken_none f.0 none, taken), omega (arith, weigh-none one_tally back_in back_none f.0 none, back))

-- the same of the vault's parts, with one share's part before them
module _ (vs : List (List Part)) (parts : List Part) (p : Part) (ls : List ℕ) (t b k : ℕ) (ms : List Move) (e : vs ≡ (p ∷ []) ∷ []) (is : parts ≡ vault_parts ls t b k ms) where
  beside_share : AreOfOneWhole (part_in vs ∷ parts) → AreOfOneWhole (p ∷ vault_parts ls t b k ms)
  beside_share f = let all : part_in vs ∷ parts ≡ p ∷ vault_parts ls t b k ms = λ q. part_in (e q) ∷ is q in subst AreOfOneWhole all f

  after_change : (f : List Part → List Part) (now : List Part) → now ≡ below (f (part_in vs ∷ parts)) → now ≡ below (f (p ∷ vault_parts ls t b k ms))
  after_change f now w = w ∙ (λ q. below (f (part_in (e q) ∷ is q)))

pub lot_known : (vs : List (List Part)) (parts : List Part) (i x : ℕ) (a : Booked) → vs ≡ (Length i x ∷ []) ∷ [] → Balanced a parts → AreOfOneWhole (part_in vs ∷ parts)
    → slice_get a.lengths i ≡ Some x
lot_known vs parts i x a e b f =
    lot_shown i x a.lengths a.wear _ _ _ (beside_share vs parts (Length i x) a.lengths a.wear (back_of parts) (workers_of parts) (moves_of parts) e b.0 f)

-- a lot that the books have is a lot of the vault, as contracts see both
pub lot_seen : {B : Type 0} {vault now : VaultOf} {lot seen : LotOf B} → vault ≡ now → lot ≡ seen → slice_get (lengths_of vault.arena) lot.index ≡ Some lot.len → IsLotOfArena now.arena seen
lot_seen {vault = vault} {lot = lot} a l e = let is = length_is vault.arena lot.index lot.len e in rw (← a, ← l) (record { known = is.0; length = is.1 })

-- so is one whose share is of one whole with the vault's parts
pub lot_of : {B : Type 0} {vault now : VaultOf} {lot seen : LotOf B} {vs : List (List Part)} {parts : List Part} → vault ≡ now → lot ≡ seen → vs ≡ (Length lot.index lot.len ∷ []) ∷ []
    → Balanced (booked vault.arena) parts → AreOfOneWhole (part_in vs ∷ parts) → IsLotOfArena now.arena seen
lot_of {vault = vault} {lot = lot} {vs = vs} {parts = parts} a l v b f = lot_seen a l (lot_known vs parts lot.index lot.len (booked vault.arena) v b f)

-- of parts that are of one whole, the tallies taken in sum up
all_summed : (ls : List ℕ) (t b k : ℕ) (ms : List Move) → AreOfOneWhole (vault_parts ls t b k ms) → AreSummed t b k ms
all_summed ls t b k ms f all =
    let sums = all_shown ls t b k ms f all in
    (sym (weigh_sum (λ (m : Move). m.taken) ms) ∙ sums.0, sym (weigh_sum (λ (m : Move). m.back) ms) ∙ sums.1)

-- where some tally was not collected, nothing is said of the sums
not_all : (t b k : ℕ) (ms : List Move) → length ms < k → AreSummed t b k ms
not_all t b k ms l all = absurd (omega arith)

moves_moved : (ms : List Move) → moves_of (map moved_part ms) ≡ ms
moves_moved [] = refl
moves_moved (m ∷ ms) = λ i. m ∷ moves_moved ms i

-- books that are known whole are balanced
pub settled : (a : Booked) (parts : List Part) (b k : ℕ) (ms : List Move) → parts ≡ vault_parts a.lengths a.wear b k ms → a.wear ≡ b + weigh (λ (n : ℕ). n) a.lengths
    → AreSummed a.wear b k ms → Balanced a parts
settled a parts b k ms e w s = grind (arith, nat_tests, moves_moved)

-- what a carving of n bytes for the lot i, by a tally with x taken and y back, shows of the books a, and that the parts after it keep them
pub record CarveShown (a : Booked) (now : List Part) (i n x y : ℕ) : Type 0 where
  pub tally : x ≤ a.wear
  pub kept : (a' : Booked) → a'.lengths ≡ slice_set a.lengths i n → a'.wear ≡ a.wear + n → Balanced a' now

pub carve_shown : (a : Booked) (p p1 now : List Part) (vs ts : List (List Part)) (i m n j x y : ℕ) → Balanced a p → vs ≡ (Length i m ∷ []) ∷ [] → ts ≡ (Moved j x y ∷ []) ∷ []
    → m ≡ 0 → AreOfOneWhole (part_in vs ∷ p)
    → p1 ≡ below (with_length n (part_in vs ∷ p)) → AreOfOneWhole (part_in ts ∷ p1) → now ≡ below (with_taken n (part_in ts ∷ p1)) → CarveShown a now i n x y
carve_shown a p p1 now vs ts i m n j x y b v t z f1 e1 f e2 =
    let at : slice_get a.lengths i ≡ Some 0 = lot_known vs p i m a v b f1 ∙ ap Some z in
    let bk = back_of p in
    let wk = workers_of p in
    let ms = moves_of p in
    let q1 = after_change vs p (Length i m) a.lengths a.wear bk wk ms v b.0 (with_length n) p1 e1 in
    let q2 = after_change ts p1 (Moved j x y) (slice_set a.lengths i n) a.wear bk wk ms t q1 (with_taken n) now e2 in
    let tally = beside_share ts p1 (Moved j x y) (slice_set a.lengths i n) a.wear bk wk ms t q1 f in
    let left = one_shown j x y (slice_set a.lengths i n) a.wear bk wk ms tally in
    let total = weigh-set (λ (u : ℕ). u) a.lengths i 0 n at in
    record {
      tally = (tally_shown j x y (slice_set a.lengths i n) a.wear bk wk (map moved_part ms) tally).0;
      kept = grind (arith, nat_tests, settled, not_all);
    }

-- what a giving back of the n bytes of the lot i, by a tally with x taken and y back, shows of the books a, and that the parts after it keep them
pub record BackShown (a : Booked) (p now : List Part) (i n x y : ℕ) : Type 0 where
  pub lot : slice_get a.lengths i ≡ Some n
  pub tally : y ≤ back_of p
  pub kept : (a' : Booked) → a'.lengths ≡ slice_set a.lengths i 0 → a'.wear ≡ a.wear → Balanced a' now

pub back_shown : (a : Booked) (p p1 now : List Part) (vs ts : List (List Part)) (i n j x y : ℕ) → Balanced a p → vs ≡ (Length i n ∷ []) ∷ [] → ts ≡ (Moved j x y ∷ []) ∷ []
    → AreOfOneWhole (part_in vs ∷ p)
    → p1 ≡ below (with_length 0 (part_in vs ∷ p)) → AreOfOneWhole (part_in ts ∷ p1) → now ≡ below (with_back n (part_in ts ∷ p1)) → BackShown a p now i n x y
back_shown a p p1 now vs ts i n j x y b v t f1 e1 f2 e2 =
    let bk = back_of p in
    let wk = workers_of p in
    let ms = moves_of p in
    let at = lot_known vs p i n a v b f1 in
    let q1 = after_change vs p (Length i n) a.lengths a.wear bk wk ms v b.0 (with_length 0) p1 e1 in
    let q2 = after_change ts p1 (Moved j x y) (slice_set a.lengths i 0) a.wear bk wk ms t q1 (with_back n) now e2 in
    let tally = beside_share ts p1 (Moved j x y) (slice_set a.lengths i 0) a.wear bk wk ms t q1 f2 in
    let left = one_shown j x y (slice_set a.lengths i 0) a.wear bk wk ms tally in
    let total = weigh-set (λ (u : ℕ). u) a.lengths i n 0 at in
    record {
      lot = at;
      tally = (tally_shown j x y (slice_set a.lengths i 0) a.wear bk wk (map moved_part ms) tally).1;
      kept = grind (arith, nat_tests, settled, not_all);
    }

get_set_other : {X : Type 0} (xs : List X) (i j : ℕ) (y : X) → (j ≡ i → ⊥) → slice_get (set xs i y) j ≡ slice_get xs j
get_set_other [] i j y n = refl
get_set_other (x ∷ xs) zero zero y n = absurd (n refl)
get_set_other (x ∷ xs) zero (suc j) y n = refl
get_set_other (x ∷ xs) (suc i) zero y n = refl
get_set_other (x ∷ xs) (suc i) (suc j) y n = get_set_other xs i j y (λ e. n (ap suc e))

get_set_same : {X : Type 0} (xs : List X) (i : ℕ) (x y : X) → slice_get xs i ≡ Some x → slice_get (set xs i y) i ≡ Some y
get_set_same [] i x y e = absurd (cc)
get_set_same (z ∷ xs) zero x y e = refl
get_set_same (z ∷ xs) (suc i) x y e = get_set_same xs i x y e

-- a record whose length is 0 after that of another was set to some bytes is another record
apart : (ls : List ℕ) (i j m k : ℕ) → slice_get ls i ≡ Some m → slice_get (set ls i k) j ≡ Some 0 → 0 < k → j ≡ i → ⊥
apart ls i j m k a b h e = grind (arith, nat_tests, get_set_same)

-- what a cut of the m bytes of the lot i after k bytes, for the empty lot j, shows of the books a, and that the parts after it keep them
pub record CutShown (a : Booked) (now : List Part) (i m j k : ℕ) : Type 0 where
  pub head : slice_get a.lengths i ≡ Some m
  pub tail : slice_get a.lengths j ≡ Some 0
  pub other : j ≡ i → ⊥
  pub kept : (a' : Booked) → a'.lengths ≡ slice_set (slice_set a.lengths i k) j (m - k) → a'.wear ≡ a.wear → Balanced a' now

pub cut_shown : (a : Booked) (p p1 now : List Part) (vs ts : List (List Part)) (i m j n k : ℕ) {seen : ℕ} → Balanced a p → vs ≡ (Length i m ∷ []) ∷ []
    → ts ≡ (Length j n ∷ []) ∷ [] → n ≡ 0 → m ≡ seen → IsGoodCut k seen
    → AreOfOneWhole (part_in vs ∷ p) → p1 ≡ below (with_length k (part_in vs ∷ p)) → AreOfOneWhole (part_in ts ∷ p1) → now ≡ below (with_length (m - k) (part_in ts ∷ p1)) → CutShown a now i m j k
cut_shown a p p1 now vs ts i m j n k b v t z len good f1 e1 f2 e2 =
    let some : 0 < k = good.0 in
    let below_m : k < m = rw len good.2 in
    let bk = back_of p in
    let wk = workers_of p in
    let ms = moves_of p in
    let at = lot_known vs p i m a v b f1 in
    let q1 = after_change vs p (Length i m) a.lengths a.wear bk wk ms v b.0 (with_length k) p1 e1 in
    let q2 = after_change ts p1 (Length j n) (slice_set a.lengths i k) a.wear bk wk ms t q1 (with_length (m - k)) now e2 in
    let there : slice_get (slice_set a.lengths i k) j ≡ Some 0 =
    lot_shown j n (slice_set a.lengths i k) a.wear bk wk (map moved_part ms) (beside_share ts p1 (Length j n) (slice_set a.lengths i k) a.wear bk wk ms t q1 f2) ∙ ap Some z in
    let other : j ≡ i → ⊥ = apart a.lengths i j m k at there some in
    let total = weigh-set (λ (u : ℕ). u) a.lengths i m k at in
    let total' = weigh-set (λ (u : ℕ). u) (slice_set a.lengths i k) j 0 (m - k) there in
    grind (arith, nat_tests, get_set_other, settled)

pub collect_kept : (a : Booked) (p p1 : List Part) (ts : List (List Part)) (j x y : ℕ) → Balanced a p → ts ≡ (Moved j x y ∷ []) ∷ [] → p1 ≡ under p (part_in ts ∷ [])
    → AreOfOneWhole p1 → Balanced a p1
collect_kept a p p1 ts j x y b t e f =
    let ms : List Move = record { number = j; taken = x; back = y } ∷ moves_of p in
    let now : p1 ≡ vault_parts a.lengths a.wear (back_of p) (workers_of p) ms = e ∙ (λ q. under (b.0 q) (part_in (t q) ∷ [])) in
    settled a p1 (back_of p) (workers_of p) ms now b.1 (all_summed a.lengths a.wear (back_of p) (workers_of p) ms (subst AreOfOneWhole now f))
