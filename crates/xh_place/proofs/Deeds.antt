-- A seat that did some deeds, and its place.
use Rattle.xh_place.proofs.Words.{map-append, ◌≡◌, ◌&&◌, ℕ, Bool, true, false, List, [], ◌∷◌, ◌++◌, append_assoc, append-nil, sym, ap, ◌∙◌, LotOf, Event, Claim, Vacate, map, None, Some, value_at}
use Rattle.xh_place.proofs.Words.{without}
use Rattle.xh_place.proofs.Words.{Held, with_lots, Body, Nothing, Data, End, bytes, content_of, fits_in, claimed, vacated, HasNow, Acts, Item, PlaceSeen, Becomes, Did, refl, subst, HasDone}
use Rattle.xh_place.proofs.Words.{HasGained, HasLost}
use Rattle.xh_place.proofs.Words.{item_of, let_go, Status, LetsGo, FindsFull, SawFull, keys, Stays, Accept, GainsAll, IsSamePlace, StartsWith, accepted_on, items_of, keys_append}
use Rattle.xh_place.specs.Accepting.{IsTooLate}
use Rattle.xh_records.specs.Deeds.{Deed}
use Rattle.xh_records.specs.Showing.{IsEmpty}
use Rattle.xh_place.proofs.Seeing.{did_more, did_none, did_starts, full_wide, starts_more, starts_same}

abbrev pub none_item : Item
none_item = record { len = 0; content = bytes [] }

-- its lots alone changed
pub now_of : (old new : Held Body) (lots : List (ℕ × LotOf Body)) → new ≡ with_lots old lots → HasNow old lots new
now_of old new lots e = e ∙ (λ i. record old { lots = lots; front = sym (ap (λ (h : Held Body). h.front) e) i })

pub own_lots : (old new : Held Body) (lots : List (ℕ × LotOf Body)) → HasNow old lots new → HasNow old new.lots new
own_lots old new lots is = is ∙ ap (λ (ls : List (ℕ × LotOf Body)). record old { lots = ls; front = new.front }) (sym (ap (λ (h : Held Body). h.lots) is))

pub own_acts : (es : List (Event × Item)) (lots : List (ℕ × LotOf Body)) (old new : Held Body) → Acts es lots old new → Acts es new.lots old new
own_acts es lots old new h = (own_lots old new lots h.0, h.1)

-- the deeds of lots that came, and then of more
pub log_more : (p d : ℕ) (ys zs : List (ℕ × LotOf Body)) → accepted_on p d (items_of ys) ++ accepted_on p d (items_of zs) ≡ accepted_on p d (items_of (ys ++ zs))
log_more p d ys zs = sym (map-append (λ (x : ℕ × Item). (Accept p x.0 d, x.1)) (items_of ys) (items_of zs)) ∙ ap (accepted_on p d) (sym (map-append (λ (x : ℕ × LotOf Body). (x.0, item_of x.1)) ys zs))

-- ---- a seat that did some deeds

pub acts_of : (own : List (Deed Body)) (parts : List (Event × Item)) (lots : List (ℕ × LotOf Body)) (x y : Held Body) → HasDone own lots x y → map (λ (d : Deed Body). (d.0, item_of d.1)) own ≡ parts
    → Acts parts lots x y
acts_of own parts lots x y h e = (h.0, (h.1.0, h.1.1, ap (map (λ (d : Deed Body). (d.0, item_of d.1))) h.1.2 ∙ e))

pub acts_none : (lots : List (ℕ × LotOf Body)) (x y : Held Body) → y ≡ with_lots x lots → Acts [] lots x y
acts_none lots x y e = (now_of x y lots e, did_none x.process x.front y.front (ap (λ (h : Held Body). h.front) e))

-- some, and then others
pub acts_twice : (es fs : List (Event × Item)) (lots more : List (ℕ × LotOf Body)) (old mid last : Held Body) → Acts es lots old mid → Acts fs more mid last → Acts (es ++ fs) more old last
acts_twice es fs lots more old mid last one two = (
  two.0 ∙ ap (λ (h : Held Body). record h { lots = more; front = last.front }) one.0,
  did_more old.process es fs old.front mid.front last.front one.1
      (subst (λ (p : ℕ). Did p fs mid.front last.front) (ap (λ (h : Held Body). h.process) one.0) two.1),
)

-- its lots changed afterwards
pub acts_lent : (es : List (Event × Item)) (lots more : List (ℕ × LotOf Body)) (old mid last : Held Body) → Acts es lots old mid → last ≡ with_lots mid more → Acts es more old last
acts_lent es lots more old mid last one then = (
  now_of mid last more then ∙ ap (λ (h : Held Body). record h { lots = more; front = last.front }) one.0,
  subst (λ (f : List (Deed Body)). Did old.process es old.front f) (sym (ap (λ (h : Held Body). h.front) then)) one.1,
)

second : (a b : Bool) → (a && b) ≡ true → b ≡ true
second true b e = e
second false b e = absurd (cc)

-- none_item stands at an empty record
none_in : (b : Body) → fits_in b 0 ≡ true → content_of b ≡ bytes []
none_in Nothing e = refl
none_in (Data v) e = let f : false ≡ true = second _ _ e in absurd (cc)
none_in (End p) e = absurd (cc)

pub empty_item : (l : LotOf Body) → IsEmpty fits_in l → item_of l ≡ none_item
empty_item l e = λ i. record { len = e.0 i; content = none_in l.body e.1 i }

pub claim_acts : (x y : Held Body) (p r : ℕ) (h : HasGained (Claim p r) (IsEmpty fits_in) x y) → Acts (claimed p (r ∷ [])) (x.lots ++ (r, h.0) ∷ []) x y
claim_acts x y p r h = acts_of ((Claim p r, h.0) ∷ []) (claimed p (r ∷ [])) (x.lots ++ (r, h.0) ∷ []) x y h.1 (λ i. (Claim p r, empty_item h.0 h.3 i) ∷ [])

pub vacate_acts : (x y : Held Body) (p r : ℕ) (l : LotOf Body) → value_at r x.lots ≡ Some l → IsEmpty fits_in l
    → ((m : LotOf Body) × (value_at r x.lots ≡ Some m) × HasLost (Vacate p r) m x y) → Acts (vacated p r) (without r x.lots) x y
vacate_acts x y p r l at none h =
    let same : Some h.0 ≡ Some l = sym h.1 ∙ at in let one : h.0 ≡ l = cc in
    acts_of ((Vacate p r, h.0) ∷ []) (vacated p r) (without r x.lots) x y h.2.0 (λ i. (Vacate p r, (ap item_of one ∙ empty_item l none) i) ∷ [])

-- ---- a seat that looked before

pub acts_again : (old mid new : Held Body) → Acts [] old.lots old mid → Acts [] mid.lots mid new → Acts [] old.lots old new
acts_again old mid new one two = acts_twice [] [] old.lots old.lots old mid new one (subst (λ (h : Held Body). Acts [] h.lots mid new) one.0 two)

-- it is the seat that it was, but for what it has seen
pub looked_at : (old mid : Held Body) → HasNow old old.lots mid → record mid { front = old.front } ≡ old
looked_at old mid same = ap (λ (h : Held Body). record h { front = old.front }) same

pub did_since : (old mid : Held Body) (to : List (Deed Body)) (es : List (Event × Item)) → Acts [] old.lots old mid → Did mid.process es mid.front to → Did mid.process es old.front to
did_since old mid to es same then =
    did_more mid.process [] es old.front mid.front to (subst (λ (p : ℕ). Did p [] old.front mid.front) (sym (ap (λ (h : Held Body). h.process) same.0)) same.1) then

-- and then did what its process and lots say
pub acts_then : (es : ℕ → List (Event × Item)) (f : List (ℕ × LotOf Body) → List (ℕ × LotOf Body)) (old mid new : Held Body) → Acts [] old.lots old mid → Acts (es mid.process) (f mid.lots) mid new
    → Acts (es old.process) (f old.lots) old new
acts_then es f old mid new one two =
    acts_twice [] (es old.process) old.lots (f old.lots) old mid new one (subst (λ (h : Held Body). Acts (es h.process) (f h.lots) mid new) one.0 two)

pub lets_since : (also : List ℕ → Type 0) (arena : ℕ) (old mid new : Held Body) → Acts [] old.lots old mid → LetsGo also arena mid new → LetsGo also arena old new
lets_since also arena old mid new same h = (h.0, h.1, h.2, acts_then (λ p. let_go p h.0) (λ ls. ls) old mid new same h.3)

pub full_since : (most arena : ℕ) (old mid new : Held Body) → Acts [] old.lots old mid → FindsFull most mid new arena → FindsFull most old new arena
full_since most arena old mid new same h =
    let held : List ℕ = keys mid.lots ++ h.0 in
    let wide = full_wide mid.process held held mid.shape mid.front new.front old.front new.front arena (λ r a. a) (did_starts old.process [] old.front mid.front same.1) (starts_same refl) h.1.1 in (
      h.0,
      (h.1.0, subst (λ (q : Held Body). SawFull q.process (keys q.lots ++ h.0) q.shape old.front new.front arena) same.0 wide),
      h.2,
      acts_then (λ p. let_go p h.0) (λ ls. ls) old mid new same h.3,
    )

pub acts_itself : (x : Held Body) → Acts [] x.lots x x
acts_itself x = acts_none x.lots x x refl

-- a place whose seat did so
pub becomes : (seat last : Held Body) (lots : List (ℕ × LotOf Body)) (parts : List (Event × Item)) {old new : Status} {xs ys : List ℕ} → Acts parts lots seat last → ys ≡ xs → new ≡ old
    → ◌≡◌ {A = PlaceSeen} (record { seat = last; list = ys; state = new }) (record { seat = record seat { lots = lots; front = last.front }; list = xs; state = old })
    × Did seat.process parts seat.front last.front
becomes seat last lots parts h items state = ((λ i. record { seat = h.0 i; list = items i; state = state i }), h.1)

pub stays_itself : (p : PlaceSeen) → Stays p p
stays_itself p = (refl, did_none p.seat.process p.seat.front p.seat.front refl)

pub stays_again : (old mid new : PlaceSeen) → Stays old mid → Stays mid new → Stays old new
stays_again old mid new one two = (
  two.0 ∙ ap (λ (q : PlaceSeen). record { seat = record q.seat { front = new.seat.front }; list = q.list; state = q.state }) one.0,
  did_more old.seat.process [] [] old.seat.front mid.seat.front new.seat.front one.1
      (subst (λ (p : ℕ). Did p [] mid.seat.front new.seat.front) (ap (λ (q : PlaceSeen). q.seat.process) one.0) two.1),
)

-- it is the same seat and place
pub acts_same : (es : List (Event × Item)) (lots : List (ℕ × LotOf Body)) (old new : Held Body) → Acts es lots old new
    → (new.table ≡ old.table) × (new.shape ≡ old.shape) × (new.process ≡ old.process) × StartsWith new.front old.front
acts_same es lots old new h = (ap (λ (q : Held Body). q.table) h.0, ap (λ (q : Held Body). q.shape) h.0, ap (λ (q : Held Body). q.process) h.0, did_starts old.process es old.front new.front h.1)

pub becomes_same : (lots : List (ℕ × LotOf Body)) (xs : List ℕ) (es : List (Event × Item)) (old new : PlaceSeen) → Becomes lots xs es old new → IsSamePlace old new
becomes_same lots xs es old new h = acts_same es lots old.seat new.seat (ap (λ (p : PlaceSeen). p.seat) h.0, h.1)

pub same_then : (old mid new : PlaceSeen) → IsSamePlace old mid → IsSamePlace mid new → IsSamePlace old new
same_then old mid new one two = (two.0 ∙ one.0, two.1 ∙ one.1, two.2 ∙ one.2, starts_more old.seat.front one.3 two.3)

-- ---- one after the other

pub becomes_twice : (es fs : List (Event × Item)) (lots more : List (ℕ × LotOf Body)) (xs ys : List ℕ) (old mid new : PlaceSeen) → Becomes lots xs es old mid → Becomes more ys fs mid new
    → Becomes more ys (es ++ fs) old new
becomes_twice es fs lots more xs ys old mid new one two = (
  two.0 ∙ ap (λ (q : PlaceSeen). record { seat = record q.seat { lots = more; front = new.seat.front }; list = ys; state = q.state }) one.0,
  did_more old.seat.process es fs old.seat.front mid.seat.front new.seat.front one.1
      (subst (λ (p : ℕ). Did p fs mid.seat.front new.seat.front) (ap (λ (q : PlaceSeen). q.seat.process) one.0) two.1),
)

-- its own lots and list
pub own_becomes : (es : List (Event × Item)) (lots : List (ℕ × LotOf Body)) (xs : List ℕ) (old new : PlaceSeen) → Becomes lots xs es old new → Becomes new.seat.lots new.list es old new
own_becomes es lots xs old new h = (
  h.0 ∙ (λ i. record {
    seat = record old.seat { lots = sym (ap (λ (q : PlaceSeen). q.seat.lots) h.0) i; front = new.seat.front };
    list = sym (ap (λ (q : PlaceSeen). q.list) h.0) i;
    state =
        old.state;
  }),
  h.1,
)

-- ---- lots that come

pub gains_none : (d : ℕ) (old new : PlaceSeen) → Stays old new → GainsAll d [] old new
gains_none d old new same = (
  same.0 ∙ (λ i. record
      { seat = record old.seat { lots = sym (append-nil old.seat.lots) i; front = new.seat.front }; list = sym (append-nil old.list) i; state = old.state }),
  same.1,
)

-- first some, in lots that were changed so, and then more
pub came_twice : (d : ℕ) (f : List (ℕ × LotOf Body) → List (ℕ × LotOf Body)) (lots ys zs : List (ℕ × LotOf Body)) (old mid new : PlaceSeen)
    → Becomes lots (old.list ++ keys ys) (accepted_on old.seat.process d (items_of ys)) old mid
    → Becomes (f mid.seat.lots ++ zs) (mid.list ++ keys zs) (accepted_on mid.seat.process d (items_of zs)) mid new
    → Becomes (f lots ++ zs) (old.list ++ keys (ys ++ zs)) (accepted_on old.seat.process d (items_of (ys ++ zs))) old new
came_twice d f lots ys zs old mid new one two =
    let p : ℕ = old.seat.process in
    let then = subst (λ (q : PlaceSeen). Becomes (f q.seat.lots ++ zs) (q.list ++ keys zs) (accepted_on q.seat.process d (items_of zs)) mid new) one.0 two in
    subst (λ (z : List ℕ × List (Event × Item)). Becomes (f lots ++ zs) z.0 z.1 old new)
    (λ i. ((append_assoc old.list (keys ys) (keys zs) ∙ ap (λ (l : List ℕ). old.list ++ l) (sym (keys_append ys zs))) i, log_more p d ys zs i))
    (becomes_twice (accepted_on p d (items_of ys)) (accepted_on p d (items_of zs)) lots (f lots ++ zs) (old.list ++ keys ys) ((old.list ++ keys ys) ++ keys zs) old mid new one then)

pub gains_twice : (d : ℕ) (ys zs : List (ℕ × LotOf Body)) (old mid new : PlaceSeen) → GainsAll d ys old mid → GainsAll d zs mid new → GainsAll d (ys ++ zs) old new
gains_twice d ys zs old mid new one two = subst (λ (ls : List (ℕ × LotOf Body)). Becomes ls (old.list ++ keys (ys ++ zs)) (accepted_on old.seat.process d (items_of (ys ++ zs))) old new)
    (append_assoc old.seat.lots ys zs) (came_twice d (λ ls. ls) (old.seat.lots ++ ys) ys zs old mid new one two)

-- only how far the process has come is another
pub becomes_state : (lots : List (ℕ × LotOf Body)) (xs : List ℕ) (es : List (Event × Item)) (old new : PlaceSeen) (s : Status) → Becomes lots xs es old new
    → Becomes lots xs es (record old { state = s }) (record new { state = s })
becomes_state lots xs es old new s h = (ap (λ (p : PlaceSeen). record p { state = s }) h.0, h.1)

pub late_state : (d r : ℕ) (s t u : Status) (old new : PlaceSeen) (sum : ℕ) → IsTooLate d r s old new sum → IsTooLate d r t (record old { state = u }) (record new { state = t }) sum
late_state d r s t u old new sum h = (h.0, h.1, h.2, h.3, h.4, becomes_state _ _ _ (record old { state = s }) new t h.5, h.6, h.7, h.8)
