-- Sweeps one after another, what a worker gave back, and how far a process has come before a sweep and after it.
use Rattle.xh_place.specs.Seen.{Sight}
use Rattle.xh_place.proofs.Words.{◌≡◌, ℕ, zero, suc, ◌+◌, ◌-◌, ◌<◌, ◌≤◌, inl, inr, List, [], ◌∷◌, ◌++◌, length, take, drop, length-append, refl, sym, ap, ◌∙◌, subst, arith}
use Rattle.xh_place.proofs.Words.{take-append-drop, Option, None, Some, Result, Err, MatchOption, TallyOf, Refused, Tests, first_refusal, Status, Ending, Ended, Vacant, ◌≢◌, true, is_over}
use Rattle.xh_place.proofs.Words.{HasGivenBack, IsSwept, RefusedOr, ending_again, Item, vacated, append_assoc, drop_at, get_or, length-take-le, take_at, Event, nat_tests, Among, Distinct, keys}
use Rattle.xh_place.proofs.Words.{value_at, put, without, direction_toward, accepted_on, EndsWith, Sweeps, ⊎_elim, ◌⊎◌, LotOf, Body, Lists, less, shown, item_of, items_of, item_in, front_at}
use Rattle.xh_place.proofs.Words.{put_other}
use Rattle.xh_place.proofs.Words.{without_other, among_back, among_front, next, put_keys}
use Rattle.xh_place.specs.Reclaiming.{IsSweptSo, came_by, gone_by}
use Rattle.std.proofs.Common.{length-take}
use Rattle.xh_place.proofs.Words.{append-nil}
use Rattle.xh_place.proofs.Counted.{none_back}
use Rattle.xh_place.proofs.Listing.{among_get, less_absent, less_was}
use Rattle.xh_place.proofs.Shown.{shown_append, shown_same}
use Rattle.xh_place.proofs.Steps.{lot_at}
use Rattle.xh_arena.specs.Views.{VaultOf}
use Rattle.xh_place.specs.Vaults.{AsksEach, BringsBack}
use Rattle.std.proofs.Math.Seq.{drop-append_seam, take-append_seam}

pub again_same : (state : Status) (xs : List ℕ) → (is_over state ≡ true → xs ≡ []) → ending_again state (length xs) ≡ state
again_same Ended xs none = ap (λ (l : List ℕ). ending_again Ended (length l)) (none refl)
again_same s xs none = refl

-- it is over again where nothing is left
pub again_over : (state : Status) (left : ℕ) (xs : List ℕ) → state ≢ Vacant → left ≡ length xs - 0 → is_over (ending_again state left) ≡ true → xs ≡ []
again_over Vacant left xs some long over = absurd (some refl)
again_over Ended zero [] some long over = refl
again_over Ended zero (x ∷ xs) some long over = absurd (omega (arith, long))
again_over Ended (suc left) xs some long over =
    let e : ending_again Ended (suc left) ≡ Ending = grind (arith, nat_tests) in let bad : is_over Ending ≡ true = ap is_over (sym e) ∙ over in absurd (cc)
again_over s left xs some long over = absurd (cc)

-- a call that passes its tests does what is said of it
pub unrefused : {A : Type 0} (tests : Tests) (result : Result A Refused) (same done : Type 0) → first_refusal tests ≡ None → done → RefusedOr tests result same done
unrefused {A} tests result same done passed h = subst (λ (o : Option Refused). MatchOption o done (λ (e : Refused). (result ≡ Err e) × same)) (sym passed) h

-- ---- the blocks that went

-- `saw` says what was seen at a record
module _ (saw : ℕ → Sight → Type 0) (p : ℕ) where
  -- what a sweep of one block and what came with it gave back is no less than its length
  pub first_bytes : (budget r : ℕ) (x : Item) (left : List (ℕ × Item)) (bytes : ℕ) (log : List (Event × Item)) → 0 < budget → Sweeps saw p budget ((r, x) ∷ []) left bytes log → x.len ≤ bytes
  first_bytes zero r x left bytes log some h = absurd (omega arith)
  first_bytes (suc budget) r x left bytes log some h = let sum = h.4 in omega (arith, sum)

  -- one sweep after another, where blocks were left
  sweeps_then : (u k all : ℕ) (xs one left : List (ℕ × Item)) (a b : ℕ) (first next : List (Event × Item)) → all ≡ u + k → Sweeps saw p u xs one a first → 0 < length one
      → Sweeps saw p k one left b next → Sweeps saw p all xs left (a + b) (first ++ next)
  sweeps_then zero k all xs one left a b first next sum h some two =
      let used : k ≡ all = omega (arith, sum) in let bytes : b ≡ a + b = omega (arith, h.1) in
      subst (λ (z : ℕ × List (ℕ × Item) × ℕ × List (Event × Item)). Sweeps saw p z.0 z.1 left z.2 z.3) (λ i. (used i, h.0 i, bytes i, sym (ap (λ (l : List (Event × Item)). l ++ next) h.2) i)) two
  sweeps_then (suc u) k all [] one left a b first next sum h some two = absurd (omega (arith, some, ap length h.0))
  sweeps_then (suc u) k zero (y ∷ ys) one left a b first next sum h some two = absurd (omega (arith, sum))
  sweeps_then (suc u) k (suc all) (y ∷ ys) one left a b first next sum h some two = (
    h.0,
    h.1 + b,
    h.2 ++ next,
    h.3,
    omega (arith, h.4),
    ap (λ (l : List (Event × Item)). l ++ next) h.5 ∙ append_assoc (accepted_on p (direction_toward y.1.content) h.0) (vacated p y.0 ++ h.2) next,
    sweeps_then u k all (ys ++ h.0) one left h.1 b h.2 next (omega (arith, sum)) h.6 some two,
  )

  -- nothing is left of nothing
  sweeps_none : (budget : ℕ) (left : List (ℕ × Item)) (bytes : ℕ) (log : List (Event × Item)) → Sweeps saw p budget [] left bytes log → left ≡ []
  sweeps_none zero left bytes log h = h.0
  sweeps_none (suc budget) left bytes log h = h.0

  -- where nothing is left, a larger budget does no more
  sweeps_idle : (used budget : ℕ) (xs left : List (ℕ × Item)) (bytes : ℕ) (log : List (Event × Item)) → used ≤ budget → left ≡ [] → Sweeps saw p used xs left bytes log
      → Sweeps saw p budget xs left bytes log
  sweeps_idle zero budget xs left bytes log most none h = subst (λ (l : List (ℕ × Item)). Sweeps saw p budget l left bytes log) (sym none ∙ h.0) (go budget) where
    go : (n : ℕ) → Sweeps saw p n [] left bytes log
    go zero = (none, h.1, h.2)
    go (suc n) = (none, h.1, h.2)
  sweeps_idle (suc used) zero xs left bytes log most none h = absurd (omega (arith, most))
  sweeps_idle (suc used) (suc budget) [] left bytes log most none h = h
  sweeps_idle (suc used) (suc budget) (y ∷ ys) left bytes log most none h = (h.0, h.1, h.2, h.3, h.4, h.5, sweeps_idle used budget (ys ++ h.0) left h.1 h.2 (omega (arith, most)) none h.6)

  -- a sweep of the whole list, and one of its end
  pub swept_all : (budget bytes : ℕ) (log : List (Event × Item)) (old new : List (ℕ × Item)) → IsSwept saw p 0 budget old new bytes log → Sweeps saw p budget old new bytes log
  swept_all budget bytes log old new is = subst (λ (l : List (ℕ × Item)). Sweeps saw p budget old l bytes log) (sym is.2) is.1

  pub swept_end : (kept end : List (ℕ × Item)) (budget bytes : ℕ) (log : List (Event × Item)) (old new : List (ℕ × Item)) → old ≡ kept ++ end
      → IsSwept saw p (length kept) budget old new bytes log → (left : List (ℕ × Item)) × Sweeps saw p budget end left bytes log × (new ≡ kept ++ left)
  swept_end kept end budget bytes log old new whole is = (
    is.0,
    subst (λ (l : List (ℕ × Item)). Sweeps saw p budget l is.0 bytes log) (ap (drop (length kept)) whole ∙ drop-append_seam kept end) is.1,
    is.2 ∙ ap (λ (l : List (ℕ × Item)). l ++ is.0) (ap (take (length kept)) whole ∙ take-append_seam kept end),
  )

  -- no block went
  pub swept_none : (from : ℕ) (old : List (ℕ × Item)) → IsSwept saw p from 0 old old 0 []
  swept_none from old = (drop from old, (refl, refl, refl), sym (take-append-drop from old))

  -- as far as the budget goes
  pub swept_full : (from used budget : ℕ) (old new : List (ℕ × Item)) (bytes : ℕ) (log : List (Event × Item)) → used ≤ budget → (from < length new → used ≡ budget)
      → IsSwept saw p from used old new bytes log → IsSwept saw p from budget old new bytes log
  swept_full from used budget old new bytes log most full is = (is.0, go is.0 refl, is.2) where
    long : length new ≡ length (take from old) + length is.0
    long = ap length is.2 ∙ length-append (take from old) is.0

    go : (l : List (ℕ × Item)) → is.0 ≡ l → Sweeps saw p budget (drop from old) is.0 bytes log
    go [] e = sweeps_idle used budget (drop from old) is.0 bytes log most e is.1
    go (z ∷ zs) e = ⊎_elim
        (λ far. subst (λ (n : ℕ). Sweeps saw p n (drop from old) is.0 bytes log) (full (omega (arith, far, long, ap length e))) is.1)
        (λ none. absurd (omega (arith, ap length e, ap length (sweeps_none used is.0 bytes log (subst (λ (l : List (ℕ × Item)). Sweeps saw p used l is.0 bytes log) none is.1)))))
        (goes_so_far from old) where
          -- a list goes so far, or nothing of it is beyond
          goes_so_far : (from : ℕ) (xs : List (ℕ × Item)) → (length (take from xs) ≡ from) ⊎ (drop from xs ≡ [])
          goes_so_far zero xs = inl refl
          goes_so_far (suc from) [] = inr refl
          goes_so_far (suc from) (x ∷ xs) = ⊎_elim (λ e. inl (ap suc e)) inr (goes_so_far from xs)

  -- one sweep after another from the same place, where blocks were left
  pub swept_more : (from u k a b : ℕ) (old mid new : List (ℕ × Item)) (first next : List (Event × Item)) → from ≤ length old
      → IsSwept saw p from u old mid a first → from < length mid → IsSwept saw p from k mid new b next → IsSwept saw p from (u + k) old new (a + b) (first ++ next)
  swept_more from u k a b old mid new first next inside one left two =
      let far : length (take from old) ≡ from = length-take-le from old inside in
      let ahead : take from mid ≡ take from old = ap (take from) one.2 ∙ take_at (take from old) one.0 from far in
      let rest : drop from mid ≡ one.0 = ap (drop from) one.2 ∙ drop_at (take from old) one.0 from far in
      let long : length mid ≡ length (take from old) + length one.0 = ap length one.2 ∙ length-append (take from old) one.0 in
      let later : Sweeps saw p k one.0 two.0 b next = subst (λ (l : List (ℕ × Item)). Sweeps saw p k l two.0 b next) rest two.1 in (
        two.0,
        sweeps_then u k (u + k) (drop from old) one.0 two.0 a b first next refl one.1 (omega (arith, far, long, left)) later,
        two.2 ∙ ap (λ (l : List (ℕ × Item)). l ++ two.0) ahead,
      )

  -- some came to the end, and then the block at `from` went
  pub swept_one : (from r bytes : ℕ) (x : Item) (more came old new : List (ℕ × Item)) → drop from old ≡ (r, x) ∷ more → EndsWith saw x.content came → bytes ≡ x.len
      → new ≡ take from old ++ (more ++ came) → IsSwept saw p from 1 old new bytes (accepted_on p (direction_toward x.content) came ++ vacated p r)
  swept_one from r bytes x more came old new first ends sum left = (
    more ++ came,
    subst (λ (l : List (ℕ × Item)). Sweeps saw p 1 l (more ++ came) bytes (accepted_on p (direction_toward x.content) came ++ vacated p r)) (sym first)
        (came, 0, [], ends, (let z : bytes ≡ x.len + 0 = omega (arith, sum) in z), refl, (refl, refl, refl)),
    left,
  )

-- ---- a sweep as one equation

came_more : (p d : ℕ) (came : List (ℕ × Item)) (log : List (Event × Item)) → came_by (accepted_on p d came ++ log) ≡ came ++ came_by log
came_more p d [] log = refl
came_more p d (x ∷ xs) log = ap (λ (l : List (ℕ × Item)). x ∷ l) (came_more p d xs log)

gone_more : (p d : ℕ) (came : List (ℕ × Item)) (log : List (Event × Item)) → gone_by (accepted_on p d came ++ log) ≡ gone_by log
gone_more p d [] log = refl
gone_more p d (x ∷ xs) log = gone_more p d xs log

sweeps_so : (saw : ℕ → Sight → Type 0) (p budget : ℕ) (xs left : List (ℕ × Item)) (bytes : ℕ) (log : List (Event × Item)) → Sweeps saw p budget xs left bytes log
    → (k : ℕ) × (k ≤ budget) × (gone_by log ≡ keys (take k (xs ++ came_by log))) × (left ≡ drop k (xs ++ came_by log)) × (0 < length left → k ≡ budget)
sweeps_so saw p zero xs left bytes log h = (0, omega arith, ap gone_by h.2, h.0 ∙ sym (append-nil xs) ∙ ap (λ (l : List (Event × Item)). xs ++ came_by l) (sym h.2), λ some. refl)
sweeps_so saw p (suc budget) [] left bytes log h = (0, omega arith, ap gone_by h.2, h.0 ∙ ap came_by (sym h.2), λ some. absurd (omega (arith, some, ap length h.0)))
sweeps_so saw p (suc budget) (y ∷ ys) left bytes log h =
    let t = sweeps_so saw p budget (ys ++ h.0) left h.1 h.2 h.6 in let d : ℕ = direction_toward y.1.content in
    let came : (ys ++ h.0) ++ came_by h.2 ≡ ys ++ came_by log = append_assoc ys h.0 (came_by h.2)
    ∙ ap (λ (l : List (ℕ × Item)). ys ++ l) (sym (ap came_by h.5 ∙ came_more p d h.0 (vacated p y.0 ++ h.2))) in (
      suc t.0,
      omega (arith, t.1),
      ap gone_by h.5 ∙ gone_more p d h.0 (vacated p y.0 ++ h.2) ∙ ap (λ (l : List ℕ). y.0 ∷ l) (t.2 ∙ ap (λ (l : List (ℕ × Item)). keys (take t.0 l)) came),
      t.3 ∙ ap (drop t.0) came,
      λ some. ap suc (t.4 some),
    )

pub swept_so : (saw : ℕ → Sight → Type 0) (p from budget bytes : ℕ) (log : List (Event × Item)) (old new : List (ℕ × Item)) → IsSwept saw p from budget old new bytes log
    → IsSweptSo from budget old new log
swept_so saw p from budget bytes log old new is = let t = sweeps_so saw p budget (drop from old) is.0 bytes log is.1 in (
  t.0,
  t.1,
  t.2,
  is.2 ∙ ap (λ (l : List (ℕ × Item)). take from old ++ l) t.3,
  λ more. t.4 (omega (arith, more, ap length is.2, length-append (take from old) is.0, length-take from old)),
)

-- ---- a place of which a block went, once another lot was in its place and these had come

shown_take : (k : ℕ) (lots : List (ℕ × LotOf Body)) (rs : List ℕ) → take k (shown lots rs) ≡ shown lots (take k rs)
shown_take zero lots rs = refl
shown_take (suc k) lots [] = refl
shown_take (suc k) lots (r ∷ rs) = ap (λ (l : List (ℕ × Item)). (r, item_in (value_at r lots)) ∷ l) (shown_take k lots rs)

shown_drop : (k : ℕ) (lots : List (ℕ × LotOf Body)) (rs : List ℕ) → drop k (shown lots rs) ≡ shown lots (drop k rs)
shown_drop zero lots rs = refl
shown_drop (suc k) lots [] = refl
shown_drop (suc k) lots (r ∷ rs) = shown_drop k lots rs

-- lots show themselves
shown_own : (lots : List (ℕ × LotOf Body)) → Distinct (keys lots) → shown lots (keys lots) ≡ items_of lots
shown_own [] d = refl
shown_own (x ∷ xs) d = (λ i. (x.0, item_in (head i)) ∷ (shown_same (keys xs) (x ∷ xs) xs other ∙ shown_own xs d.1) i) where
  head : value_at x.0 (x ∷ xs) ≡ Some x.1
  head = grind (arith, nat_tests)

  other : (q : ℕ) → Among (keys xs) q → value_at q (x ∷ xs) ≡ value_at q xs
  other q a = let n : x.0 ≢ q = λ e. d.0 (subst (λ (z : ℕ). Among (keys xs) z) (sym e) a) in grind (arith, nat_tests)

back_at : (q : ℕ) (xs ys : List (ℕ × LotOf Body)) → (Among (keys xs) q → ⊥) → value_at q (xs ++ ys) ≡ value_at q ys
back_at q [] ys n = refl
back_at q (x ∷ xs) ys n = let m : x.0 ≢ q = λ e. n (inl (sym e)) in grind (arith, nat_tests, back_at q xs ys (λ a. n (inr a)))

-- the list without the number at a place
cut_out : (from r : ℕ) (w : List ℕ) → Distinct w → from < length w → get_or w from 0 ≡ r → less r w ≡ take from w ++ drop (suc from) w
cut_out from r [] d h e = absurd (omega arith)
cut_out zero r (x ∷ w) d h e = grind (arith, nat_tests, less_absent r w (λ a. d.0 (subst (λ (z : ℕ). Among w z) (sym e) a)))
cut_out (suc from) r (x ∷ w) d h e = let n : x ≢ r = λ q. d.0 (subst (λ (z : ℕ). Among w z) (e ∙ sym q) (among_get from w 0 (omega arith))) in
    grind (arith, nat_tests, cut_out from r w d.1 (omega arith) e)

less_front : (r : ℕ) (xs ys : List ℕ) → (Among ys r → ⊥) → less r (xs ++ ys) ≡ less r xs ++ ys
less_front r [] ys n = less_absent r ys n
less_front r (x ∷ xs) ys n = grind (arith, nat_tests, less_front r xs ys n)

apart : (xs ys : List ℕ) → Distinct (xs ++ ys) → ((q : ℕ) → Among xs q → Among ys q → ⊥) × Distinct xs × Distinct ys
apart [] ys d = ((λ q a b. a), tt, d)
apart (x ∷ xs) ys d = let t = apart xs ys d.1 in (
  (λ q a b. ⊎_elim (λ e. d.0 (among_back xs ys x (subst (λ (z : ℕ). Among ys z) e b))) (λ c. t.0 q c b) a),
  ((λ a. d.0 (among_front xs ys x a)), t.1),
  t.2,
)

module _ (lots came : List (ℕ × LotOf Body)) (rs : List ℕ) (r from : ℕ) (l m : LotOf Body) (are : Lists lots rs) (once : Distinct (rs ++ keys came)) (inside : from < length rs)
    (here : get_or rs from 0 ≡ r) (at : value_at r lots ≡ Some l) where
  pub gone_first : drop from (shown lots rs) ≡ (r, item_of l) ∷ shown lots (drop (suc from) rs)
  gone_first = shown_drop from lots rs ∙ ap (shown lots) (next from rs 0 inside) ∙ (λ i. (here i, item_in ((ap (λ (z : ℕ). value_at z lots) here ∙ at) i)) ∷ shown lots (drop (suc from) rs))

  pub gone_left : shown (without r (put r m lots ++ came)) (less r (rs ++ keys came)) ≡ take from (shown lots rs) ++ (shown lots (drop (suc from) rs) ++ items_of came)
  gone_left =
      let t = apart rs (keys came) once in let new : List (ℕ × LotOf Body) = without r (put r m lots ++ came) in
      let mine : Among rs r = subst (Among rs) here (among_get from rs 0 inside) in
      let fresh : (q : ℕ) → Among (keys came) q → Among (keys (put r m lots)) q → ⊥ = λ q a b. t.0 q (are.listed q (subst (λ (ks : List ℕ). Among ks q) (put_keys r m lots) b)) a in
      let kept : shown new (less r rs) ≡ shown lots (less r rs) = shown_same (less r rs) new lots (λ q a. let w = less_was r q rs a in let k = lot_at q lots (are.held q w.0) in
      without_other q r (put r m lots ++ came) w.1 ∙ front_at q k.0 (put r m lots) came (put_other q r m lots w.1 ∙ k.1) ∙ sym k.1) in
      let others : shown new (keys came) ≡ items_of came = shown_same (keys came) new came (λ q a.
      without_other q r (put r m lots ++ came) (λ e. t.0 q (subst (Among rs) e mine) a) ∙ back_at q (put r m lots) came (fresh q a)) ∙ shown_own came t.2 in
      ap (shown new) (less_front r rs (keys came) (λ a. t.0 r mine a)) ∙ shown_append new (less r rs) (keys came)
      ∙ (λ i. (kept ∙ ap (shown lots) (cut_out from r rs t.1 inside here) ∙ shown_append lots (take from rs) (drop (suc from) rs)) i ++ others i)
      ∙ append_assoc (shown lots (take from rs)) (shown lots (drop (suc from) rs)) (items_of came)
      ∙ ap (λ (l : List (ℕ × Item)). l ++ (shown lots (drop (suc from) rs) ++ items_of came)) (sym (shown_take from lots rs))

-- ---- what a worker gave back

gave_more : (a b : ℕ) (old mid new : List TallyOf) → HasGivenBack a old mid → HasGivenBack b mid new → HasGivenBack (a + b) old new
gave_more a b [] [] [] one two = omega (arith, one, two)
gave_more a b [] [] (w ∷ new) one two = absurd two
gave_more a b [] (u ∷ mid) new one two = absurd one
gave_more a b (t ∷ old) [] new one two = absurd one
gave_more a b (t ∷ old) (u ∷ mid) [] one two = absurd two
gave_more a b (t ∷ old) (u ∷ mid) (w ∷ new) one two =
    let first : a ≡ one.0 + one.1 = one.2 in let second : b ≡ two.0 + two.1 = two.2 in
    let last : w ≡ record t { back = t.back + one.0 + two.0 } = subst (λ (z : TallyOf). w ≡ record z { back = z.back + two.0 }) one.3 two.3 in (
      one.0 + two.0,
      one.1 + two.1,
      omega (arith, first, second),
      last ∙ ap (λ (n : ℕ). record t { back = n }) (let sum : t.back + one.0 + two.0 ≡ t.back + (one.0 + two.0) = omega arith in sum),
      gave_more one.1 two.1 old mid new one.4 two.4,
    )

-- so does a worker, in two steps
module _ {V : Type 0} (changes : V → V → ℕ → VaultOf → VaultOf → Type 0) (tallies : V → List TallyOf) where
  asked_both : (xs ys : List ℕ) (old mid new : V) → AsksEach changes xs old mid → AsksEach changes ys mid new → AsksEach changes (xs ++ ys) old new
  asked_both [] ys old mid new one two = subst (λ (v : V). AsksEach changes ys v new) one two
  asked_both (a ∷ xs) ys old mid new one two = (one.0, one.1, asked_both xs ys one.0 mid new one.2 two)

  pub back_more : (a b : ℕ) (old mid new : V) → BringsBack changes tallies a old mid → BringsBack changes tallies b mid new → BringsBack changes tallies (a + b) old new
  back_more a b old mid new one two =
      let xs : List ℕ = one.1.0 in let ys : List ℕ = two.1.0 in let few = one.1.2 in let more = two.1.2 in (
        gave_more a b (tallies old) (tallies mid) (tallies new) one.0 two.0,
        (xs ++ ys, asked_both xs ys old mid new one.1.1 two.1.1, omega (arith, length-append xs ys, few, more)),
      )

  pub still : (old new : V) → new ≡ old → BringsBack changes tallies 0 old new
  still old new h = (none_back (ap tallies h), ([], h, omega arith))

-- blocks are there only where there were some at the start
pub started : (from : ℕ) (old mid : List ℕ) → from < length mid → (length old ≤ from → mid ≡ old) → from < length old
started from old mid some same = grind (arith, λ (h : length old ≤ from). ap length (same h))
