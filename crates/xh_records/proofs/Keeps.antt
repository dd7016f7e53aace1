-- A step on one record's word keeps the rule.
use Rattle.xh_records.proofs.Common.{nat_tests, ◌≡◌, ℕ, ◌%◌, ◌<◌, ◌≢◌, Bool, List, [], ◌∷◌, ◌++◌, map, length, set, get_or, eqb, sym, refl, ap, ◌∙◌, subst, inl, inr, arith, length-set, ne_eqb}
use Rattle.xh_records.proofs.Common.{eq-eqb, append-nil, Option, Some, None, none, some, some-injective, dite, ℕ_discrete, get_elem?, State, Me, Act, rest, put_back, takes, gives}
use Rattle.xh_records.proofs.Common.{keeps, step, stepped, Allows, at_set, set_here, set_else, set_again, at_map, LotOf, Among, Distinct, without, among_back, among_either, among_front, Shape}
use Rattle.xh_records.proofs.Common.{View, Holder, Process, Direction, Event, index_of, Ownership, IsHeldBy, IsHolder, IsDone, word_of, place_of, number_of, record_of, from_of, to_of}
use Rattle.xh_records.proofs.Common.{word_injective, index_back, number_inside, LeadsTo, replicate, process_of, Sits, Owns, IsLotAt, HomeFits, ViewFits, ViewTells, IsSmall, Shows, Shown}
use Rattle.xh_records.proofs.Common.{KnowsAt}
use Rattle.xh_records.proofs.Common.{taking, giving, IsAway, IsHomeLot, IsAlone, first_history, gained, head_of, knowing, lost, SeesMore, took_slot, gave_slot, looked, compared}
use mathlib.Core.Option as maybe
use lib.Seq.{map-set}
use Rattle.xh_records.proofs.History.{Unseen, more_history, one_log, tells_all, unseen}
use Rattle.xh_records.proofs.Cuts.{sat, shares_out, stands, still_seated}
use Rattle.xh_records.proofs.Common.{Accept, Arrives, Deed, IsLeft, Pass, events}
use Rattle.xh_records.proofs.Deeds.{arrives_more, left_now, left_still}
use Rattle.xh_records.proofs.Lists.{first_is}
use Rattle.xh_records.proofs.Elements.{either_way, in_range, is_there, nth_is, only_one}
use prog.Atomic.{either}

-- words
pub never : (d q : ℕ) → Some (Direction d) ≡ Some (Process q) → ⊥
never d q e = let w : word_of (Some (Direction d)) ≡ word_of (Some (Process q)) = ap word_of e in absurd (omega arith)

pub one_holder : (o : Ownership) (r : ℕ) (h k : Option Holder) → IsHeldBy o r h → IsHeldBy o r k → h ≡ k
one_holder o r h k a b = some-injective h k (sym a ∙ b)

-- what one seat's view may become where a record goes from h to k
pub record Change {B : Type 0} (v w : View B) (r : ℕ) (h k : Option Holder) : Type 0 where
  pub processes : w.processes ≡ v.processes
  pub shape : w.shape ≡ v.shape
  pub was_mine : (p : ℕ) → h ≡ Some (Process p) → Sits v p
  pub is_mine : (p : ℕ) → k ≡ Some (Process p) → Sits v p
  pub no_more : (r' p : ℕ) → r' ≢ r → Owns w r' p → Owns v r' p
  pub no_less : (r' p : ℕ) → r' ≢ r → Owns v r' p → Owns w r' p
  pub right : (p : ℕ) → Owns w r p → k ≡ Some (Process p)
  pub left : (p : ℕ) → k ≡ Some (Process p) → Owns w r p

-- the event by which it does, after the log so far
pub record By {B : Type 0} (s : Shape) (log : List (Deed B)) (v w : View B) (r : ℕ) (h k : Option Holder) (e : Event) (l : LotOf B) : Type 0 where
  pub inside : record_of e % 256 < s.records
  pub index : index_of s.records (record_of e) ≡ r
  pub from : from_of e ≡ h
  pub to : to_of e ≡ k
  pub alone : v.processes ≡ process_of e ∷ []
  pub front : w.fronts ≡ (place_of (process_of e), log ++ (e, l) ∷ []) ∷ []

module _ {B : Type 0} (fits : B → ℕ → Bool) (s : Shape) (o : Ownership) (ws : List ℕ) (hs : List (maybe.Option (Option (LotOf B)))) (vs : List (View B)) (shown : Shows fits s o ws hs vs)
    (id r : ℕ) (v w : View B) (h k : Option Holder) (at : get_elem? vs id ≡ some v) (held : IsHeldBy o r h) (change : Change v w r h k) (e : Event) (lot : LotOf B)
    (by : By s shown.log v w r h k e lot)
    (was : (p q n : ℕ) → e ≡ Accept p q n → IsLeft shown.log q n lot) where
  abbrev o' : Ownership
  o' = set o r k

  here : (p : ℕ) → k ≡ Some (Process p) → IsHeldBy o' r (Some (Process p))
  here p e = set_here o r k (in_range o r h held) ∙ ap some e

  sits : (p : ℕ) → Sits v p → Sits w p
  sits p = subst (λ (l : List ℕ). Among l p) (sym change.processes)

  mine : (p : ℕ) → Sits w p → Sits v p
  mine p = subst (λ (l : List ℕ). Among l p) change.processes

  mine_fits : ViewFits s o' w
  mine_fits = let old = shown.views_fit id v at in record {
    is_owner = λ r' p owns. grind (arith, nat_tests, here, sits, set_else);
    owns_all = λ r' p is there. grind (arith, nat_tests, mine, at_set);
    knows = λ p there. change.shape ∙ old.knows p (mine p there);
    places = subst (λ (l : List ℕ). Distinct (map place_of l)) (sym change.processes) old.places;
  }

  apart : (j p : ℕ) (u : View B) → j ≢ id → get_elem? vs j ≡ some u → Sits u p → Sits v p → ⊥
  apart j p u other there a b = other (shown.alone j id p p u v there at a b refl).0

  others_fit : (j : ℕ) (u : View B) → j ≢ id → get_elem? vs j ≡ some u → ViewFits s o' u
  others_fit j u other there = let old = shown.views_fit j u there in record {
    is_owner = λ r' p owns. grind (arith, nat_tests, apart, one_holder, set_else);
    owns_all = λ r' p is sat. grind (arith, nat_tests, sat, apart, at_set);
    knows = old.knows;
    places = old.places;
  }

  done : IsDone s.records o e o'
  done = subst (λ (z : ℕ × Option Holder × Option Holder). IsHeldBy o z.0 z.1 × (set o r k ≡ set o z.0 z.2)) (λ i. (sym by.index i, sym by.from i, sym by.to i)) (held, refl)

  does : Sits v (process_of e)
  does = subst (λ (l : List ℕ). Among l (process_of e)) (sym by.alone) (inl refl)

  elsewhere : (j p : ℕ) (u : View B) → j ≢ id → get_elem? vs j ≡ some u → Sits u p → place_of (process_of e) ≢ place_of p
  elsewhere j p u other there sits same = other (shown.alone j id p (process_of e) u v there at sits does (sym same)).0

  -- what is in flight now
  left : (y : maybe.Option (Option (LotOf B))) → ((d : ℕ) → k ≡ Some (Direction d) → (y ≡ some (Some lot)) × ((q : ℕ) × (e ≡ Pass q (number_of s.records r) d))) → (j d : ℕ) (l : LotOf B)
      → IsHeldBy o' j (Some (Direction d))
      → get_elem? (set hs r y) j ≡ some (some (Some l)) → IsLeft (shown.log ++ (e, lot) ∷ []) (number_of s.records j) d l
  left y home j d l is there = dite (ℕ_discrete j r)
      (λ same.
      let now : k ≡ Some (Direction d) = some-injective k (Some (Direction d)) (sym (set_here o r k (in_range o r h held)) ∙ ap (get_elem? o') (sym same) ∙ is) in
      let at : y ≡ some (Some l) = some-injective y (some (Some l)) (sym (set_here hs r y home_inside) ∙ ap (get_elem? (set hs r y)) (sym same) ∙ there) in
      let h = home d now in
      let lots : Some lot ≡ Some l = some-injective (Some lot) (Some l) (sym h.0 ∙ at) in
      let is_l : lot ≡ l = cc in
      subst (λ (z : Event × LotOf B × ℕ). IsLeft (shown.log ++ (z.0, lot) ∷ []) (number_of s.records z.2) d z.1) (λ i. (sym h.1.1 i, is_l i, sym same i))
      (left_now shown.log h.1.0 (number_of s.records r) d lot))
      (λ other. left_still shown.log (number_of s.records j) d l (e, lot)
      (λ same. other (sym (index_back s.records j shown.small.0 shown.small.1) ∙ ap (index_of s.records) (sym same) ∙ by.index))
      (shown.left j d l (sym (set_else o r j k other) ∙ is) (sym (set_else hs r j y other) ∙ there)))
    where
      home_inside : r < length hs
      home_inside = let e : length hs ≡ length o = shown.homes_long in let i = in_range o r h held in omega arith

  pub moved : (y : maybe.Option (Option (LotOf B))) → IsHolder k → HomeFits fits s r k y
      → ((d : ℕ) → k ≡ Some (Direction d) → (y ≡ some (Some lot)) × ((q : ℕ) × (e ≡ Pass q (number_of s.records r) d)))
      → Shows fits s o' (set ws r (word_of k)) (set hs r y) (set vs id w)
  moved y good home same = record {
    words_are = ap (λ (l : List ℕ). set l r (word_of k)) shown.words_are ∙ sym (map-set word_of o r k);
    holders = λ r' g is. grind (arith, nat_tests, at_set);
    homes_long = length-set hs r y ∙ shown.homes_long ∙ sym (length-set o r k);
    homes_are = λ r' g is. grind (arith, nat_tests, set_here, in_range, set_else, at_set);
    placed = λ r' p is. grind (arith, nat_tests, at_set, shown.inside id p v at);
    latest = λ r' p j q u is there sits same. let f = sat vs id v w at change.processes j q u there sits in grind (arith, nat_tests, at_set, shown.alone j id q p f.0 v f.1 at f.2);
    seated = still_seated fits s o ws hs vs shown id v w at change.processes;
    inside = λ j p u there sits. let f = sat vs id v w at change.processes j p u there sits in shown.inside j p f.0 f.1 f.2;
    alone = λ i j p q u z there there' sits sits' same. let f = sat vs id v w at change.processes i p u there sits in let g = sat vs id v w at change.processes j q z there' sits' in
        shown.alone i j p q f.0 g.0 f.1 g.1 f.2 g.2 same;
    views_fit = λ j u there. either_way (at_set vs id j w u there) (λ t. subst (ViewFits s o') t.1 mine_fits) (λ t. others_fit j u t.0 t.1);
    small = shown.small;
    log = shown.log ++ (e, lot) ∷ [];
    history = more_history s o o' vs shown.log id w (e, lot) shown.history done (by.inside, subst IsHolder (sym by.to) good) (length-set o r k)
        (shown.inside id (process_of e) v at does).0 (sits (process_of e) does) by.front was elsewhere;
    left = left y same;
  }

pub among_without : (r : ℕ) (xs : List (ℕ × ℕ)) (x : ℕ × ℕ) → Among (without r xs) x → Among xs x × (x.0 ≢ r)
among_without r [] x h = absurd h
among_without r (y ∷ ys) x h = grind (arith, nat_tests, among_without r ys x)

pub among_kept : (r : ℕ) (xs : List (ℕ × ℕ)) (x : ℕ × ℕ) → x.0 ≢ r → Among xs x → Among (without r xs) x
among_kept r [] x n h = absurd h
among_kept r (y ∷ ys) x other h = grind (arith, nat_tests, among_kept r ys x other)

-- by the event e the record n goes from h to k, and the process p does it
abbrev pub IsMove : Event → ℕ → ℕ → Option Holder → Option Holder → Type 0
IsMove e n p h k = (record_of e ≡ n) × (from_of e ≡ h) × (to_of e ≡ k) × (process_of e ≡ p)

pub taking_is : (p n : ℕ) (h : Option Holder) → IsAway h → IsMove (taking p n h) n p h (Some (Process p))
taking_is p n h away = grind (arith, nat_tests)

pub giving_is : (p n : ℕ) (k : Option Holder) → IsAway k → IsMove (giving p n k) n p (Some (Process p)) k
giving_is p n k away = grind (arith, nat_tests)

-- an event that accepts takes the record that it names from that direction, and one that gives accepts nothing
accepts_from : (p n q m d : ℕ) (h : Option Holder) → taking p n h ≡ Accept q m d → h ≡ Some (Direction d)
accepts_from p n q m d None e = absurd (cc)
accepts_from p n q m d (Some (Process x)) e = absurd (cc)
accepts_from p n q m d (Some (Direction c)) e = let same : c ≡ d = cc in ap (λ (z : ℕ). Some (Direction z)) same

accepts_it : (p n q m d : ℕ) (h : Option Holder) → taking p n h ≡ Accept q m d → n ≡ m
accepts_it p n q m d None e = absurd (cc)
accepts_it p n q m d (Some (Process x)) e = absurd (cc)
accepts_it p n q m d (Some (Direction c)) e = cc

gives_none : (p n q m d : ℕ) (k : Option Holder) → giving p n k ≡ Accept q m d → ⊥
gives_none p n q m d None e = absurd (cc)
gives_none p n q m d (Some (Process x)) e = absurd (cc)
gives_none p n q m d (Some (Direction c)) e = absurd (cc)

-- the lot at the front of a list
same_lot : {L : Type 0} (r : ℕ) (l m : L) (all xs ys : List (ℕ × Option L)) → all ≡ (r, Some l) ∷ xs → all ≡ (r, Some m) ∷ ys → l ≡ m
same_lot r l m all xs ys a b = let e : Some l ≡ Some m = first_is r (Some l) (Some m) all xs ys a b in cc

pub same_place : (p q : ℕ) → word_of (Some (Process p)) ≡ word_of (Some (Process q)) → p ≡ q
same_place p q e = omega arith

module _ {B : Type 0} (fits : B → ℕ → Bool) (s : Shape) where
  abbrev S : Type 0
  S = Option (LotOf B)

  abbrev M : Type 0
  M = Me S (View B)

  -- the record at r, in a table that meets the rule
  pub record At (t : State S (View B)) (o : Ownership) (r : ℕ) : Type 0 where
    pub holder : Option Holder
    pub held : IsHeldBy o r holder
    pub found : get_or t.words r 0 ≡ word_of holder
    pub word_at : get_elem? t.words r ≡ some (get_or t.words r 0)

  pub at : (t : State S (View B)) (o : Ownership) (r slots : ℕ) → Shows fits s o t.words t.homes t.views → length t.homes ≡ slots → r < slots → At t o r
  at t o r slots shown long inside =
      let there = is_there o r (let e = shown.homes_long in omega arith) in
      let word = subst (λ (l : List ℕ). get_elem? l r ≡ some (word_of there.0)) (sym shown.words_are) (at_map word_of o r there.0 there.1) in
      let found = nth_is t.words r 0 (word_of there.0) word in record { holder = there.0; held = there.1; found = found; word_at = word ∙ ap some (sym found) }

  -- a step that leaves all but what its seat has seen as it was
  pub stays : (t : State S (View B)) (id : ℕ) (me : M) (r : ℕ) (n : ℕ) (fronts : List (ℕ × List (Deed B))) (holds : Shown fits s t) → get_elem? t.views id ≡ some me.0 → get_elem? t.words r ≡ some n
      → ViewTells holds.1.log (record me.0 { fronts = fronts }) → Shown fits s (stepped t r n id me.1 (record me.0 { fronts = fronts }) keeps)
  stays t id me r n fronts holds here word tells =
      let o = holds.0 in let shown = holds.1 in let v : View B = me.0 in let w : View B = record v { fronts = fronts } in let fit = shown.views_fit id v here in (
        o,
        subst (λ (z : List ℕ). Shows fits s o z t.homes (set t.views id w)) (sym (set_again t.words r n word)) (shares_out fits s o t.words t.homes t.views (set t.views id w) shown
            (λ j p u there sits. let f = sat t.views id v w here refl j p u there sits in (j, f.0, f.1, f.2))
            (λ j p u there sits. let f = stands t.views id v w here refl j p u there sits in (j, f.0, f.1, f.2))
            (λ i j p u z there there' sits sits'. let f = sat t.views id v w here refl i p u there sits in let g = sat t.views id v w here refl j p z there' sits' in
            (shown.alone i j p p f.0 g.0 f.1 g.1 f.2 g.2 refl).0)
            (λ j u there. either_way (at_set t.views id j w u there)
            (λ x. subst (λ (z : View B). ViewFits s o z × ViewTells shown.log z) x.1 (record { is_owner = fit.is_owner; owns_all = fit.owns_all; knows = fit.knows; places = fit.places }, tells))
            (λ x. (shown.views_fit j u x.1, shown.history.tells j u x.1)))),
      )

  -- what a seat knows of the word of a record
  knows_word : (o : Ownership) (v : View B) (r n : ℕ) (h : Option Holder) → ViewFits s o v → IsHeldBy o r h → IsHolder h → n ≡ word_of h → KnowsAt v r n
  knows_word o v r n h fit held good is = grind (arith, nat_tests, sits, word_injective, one_holder)

  takes_change : (o : Ownership) (v : View B) (r p : ℕ) (h : Option Holder) (l : LotOf B) (others : List (Deed B)) → ViewFits s o v → IsHeldBy o r h → ((q : ℕ) → h ≡ Some (Process q) → ⊥)
      → v.processes ≡ p ∷ [] → Change v (gained v r p h l others) r h (Some (Process p))
  takes_change o v r p h l others fit held free mine = grind (arith, nat_tests, same_place, only_one, among_either, among_front, one_holder, among_back)

  -- the event of a step that takes, or gives
  step_by : (log : List (Deed B)) (v w : View B) (r p : ℕ) (h k : Option Holder) (l : LotOf B) (e : ℕ → Event) → ((n : ℕ) → IsMove (e n) n p h k) → IsSmall s → v.shape ≡ s → v.processes ≡ p ∷ []
      → w.fronts ≡ (place_of p, log ++ (e (number_of v.shape.records r), l) ∷ []) ∷ [] → By s log v w r h k (e (number_of s.records r)) l
  step_by log v w r p h k l e is small same alone front = grind (arith, nat_tests, number_inside, index_back)

  -- what is at home, where no process holds the record
  pub home_is : (r : ℕ) (h : Option Holder) (l : LotOf B) → IsLotAt s r l → IsHomeLot fits h l → HomeFits fits s r h (some (Some l))
  home_is r None l is home = (l, refl, is, home)
  home_is r (Some (Process p)) l is home = absurd home
  home_is r (Some (Direction d)) l is home = (l, refl, is, home)

  pub home_lot : (r : ℕ) (h : Option Holder) (x : maybe.Option S) → IsAway h → HomeFits fits s r h x → (l : LotOf B) × (x ≡ some (Some l)) × IsLotAt s r l × IsHomeLot fits h l
  home_lot r None x away home = home
  home_lot r (Some (Process p)) x away home = absurd (away p refl)
  home_lot r (Some (Direction d)) x away home = home

  -- a look at the word of a record: the view afterwards, which has seen the whole log
  a_look : (slots id : ℕ) (me : M) (r p : ℕ) → r < slots → IsAlone me.0 p → (t : State S (View B)) → Shown fits s t → length t.homes ≡ slots → get_elem? t.views id ≡ some me.0
      → (w : View B) × Shown fits s (stepped t r (get_or t.words r 0) id me.1 w keeps) × SeesMore r (get_or t.words r 0) me (w, me.1)
  a_look slots id me r p inside alone t holds long seen =
      let o = holds.0 in let shown = holds.1 in let a : At t o r = at t o r slots shown long inside in let n : ℕ = get_or t.words r 0 in
      let fit = shown.views_fit id me.0 seen in
      let new_to_it : Unseen shown.log me.0 p = unseen shown.log me.0 p (shown.history.tells id me.0 seen) alone in
      let w : View B = knowing me.0 (new_to_it.others ++ []) in
      let front : w.fronts ≡ (place_of p, shown.log) ∷ [] = new_to_it.now [] ∙ ap (λ (z : List (Deed B)). (place_of p, z) ∷ []) (append-nil shown.log) in (
        w,
        stays t id me r n w.fronts holds seen a.word_at (tells_all shown.log w p new_to_it.sits front),
        (
          new_to_it.others,
          new_to_it.by,
          refl,
          (
            knows_word o me.0 r n a.holder fit a.held (shown.holders r a.holder a.held) a.found,
            (
              o,
              subst (λ (z : Shape × List (Deed B)). LeadsTo z.0.records (replicate (length o) None) (events z.1) o)
                  (λ i. (sym (fit.knows p new_to_it.sits) i, sym (ap first_history front) i)) shown.history.leads,
              a.holder,
              a.held,
              a.found,
            ),
          ),
        ),
      )

  -- a compare that takes
  pub takes_lot : (slots id : ℕ) (me : M) (r old new p : ℕ) (h : Option Holder) (said : maybe.Option S) → old ≡ word_of h → new ≡ word_of (Some (Process p)) → IsAway h → r < slots → IsAlone me.0 p
      → Allows (Shown fits s) slots id me r (λ n. either (eqb n old) new n) (took_slot fits (step slots r old new said) me)
  takes_lot slots id me r old new p h said is_old is_new free inside alone t holds long seen small =
      let mine : me.0.processes ≡ p ∷ [] = alone.0 in
      let o = holds.0 in let shown = holds.1 in let a : At t o r = at t o r slots shown long inside in let n : ℕ = get_or t.words r 0 in
      let new_to_it : Unseen shown.log me.0 p = unseen shown.log me.0 p (shown.history.tells id me.0 seen) alone in let sits : Sits me.0 p = new_to_it.sits in
      let good : p < 65504 = (shown.inside id p me.0 seen sits).1 in dite (ℕ_discrete n old)
      (λ hit. let same : a.holder ≡ h = word_injective a.holder h (sym a.found ∙ hit ∙ is_old) in let held : IsHeldBy o r h = subst (IsHeldBy o r) same a.held in
      let fit = shown.views_fit id me.0 seen in let x = shown.homes_are r h held in let l = home_lot r h x.0 free x.2 in let w : View B = gained me.0 r p h l.0 new_to_it.others in
      let was : (q m d : ℕ) → taking p (number_of s.records r) h ≡ Accept q m d → IsLeft shown.log m d l.0 = λ q m d e.
      let from : h ≡ Some (Direction d) = accepts_from p (number_of s.records r) q m d h e in
      subst (λ (z : ℕ). IsLeft shown.log z d l.0) (accepts_it p (number_of s.records r) q m d h e) (shown.left r d l.0 (subst (IsHeldBy o r) from held) (x.1 ∙ ap some l.1)) in
      let act : Act S = takes r (Some l.0) in (
        w,
        act,
        x.1 ∙ ap some l.1,
        subst (λ (m : ℕ). Shown fits s (stepped t r m id me.1 w act)) (sym (subst (λ (b : Bool). either b new n ≡ word_of (Some (Process p))) (sym (eq-eqb n old hit)) is_new)) (
          set o r (Some (Process p)),
          moved fits s o t.words t.homes t.views shown id r me.0 w h (Some (Process p)) seen held (takes_change o me.0 r p h l.0 new_to_it.others fit held free mine)
              (taking p (number_of s.records r) h) l.0
              (step_by shown.log me.0 w r p h (Some (Process p)) l.0 (λ n. taking p n h) (λ n. taking_is p n h free) shown.small (fit.knows p sits) mine (new_to_it.now _))
              was none good refl (λ d e. absurd (never d p (sym e))),
        ),
        (
          (λ _. (
            l.0,
            new_to_it.others,
            new_to_it.by,
            (λ k e. let is : h ≡ k = word_injective h k (sym is_old ∙ e) in (
              (λ i. (gained me.0 r (sym new_to_it.placed i) (is i) l.0 new_to_it.others, (r, Some l.0) ∷ me.1)),
              subst (λ (z : Option Holder). IsHomeLot fits z l.0) is l.3,
            )),
            subst (λ (z : Shape). IsLotAt z r l.0) (sym (fit.knows p sits)) l.2,
            (λ q owns. free q (one_holder o r h (Some (Process q)) held (fit.is_owner r q owns).0)),
            subst (λ (z : List (ℕ × List (Deed B))). Arrives (first_history z)) (sym (new_to_it.now ((taking p (number_of me.0.shape.records r) h, l.0) ∷ [])))
                (subst (λ (z : Shape). Arrives (shown.log ++ (taking p (number_of z.records r) h, l.0) ∷ [])) (sym (fit.knows p sits))
                (arrives_more shown.log (taking p (number_of s.records r) h, l.0) shown.history.arrives was)),
          )),
          (λ miss. absurd (miss hit)),
        ),
      ))
      (λ miss. let look = a_look slots id me r p inside alone t holds long seen in (
        look.0,
        keeps,
        tt,
        subst (λ (b : Bool). Shown fits s (stepped t r (either b new n) id me.1 look.0 keeps)) (sym (ne_eqb n old miss)) look.1,
        ((λ hit. absurd (miss hit)), (λ _. look.2)),
      ))

  gives_change : (o : Ownership) (v : View B) (r p : ℕ) (k : Option Holder) (l : LotOf B) (others : List (Deed B)) → ViewFits s o v → Owns v r p → ((q : ℕ) → k ≡ Some (Process q) → ⊥)
      → Change v (lost v r p k l others) r (Some (Process p)) k
  gives_change o v r p k l others fit owns free =
      let out = λ (i q : ℕ). among_without r v.records (i, q) in let still = λ (i q : ℕ). among_kept r v.records (i, q) in grind (arith, nat_tests, same_place, out, still)

  -- a store that gives
  pub gives_lot : (slots id : ℕ) (me : M) (r new p : ℕ) (k : Option Holder) (lot : LotOf B) (rest_of : List (ℕ × S)) → new ≡ word_of k → IsAway k → IsHolder k → me.1 ≡ (r, Some lot) ∷ rest_of
      → IsAlone me.0 p → Owns me.0 r p → IsLotAt me.0.shape r lot → IsHomeLot fits k lot
      → Allows (Shown fits s) slots id me r (λ _. new) (λ _. gave_slot (step slots r new 0 none) me new)
  gives_lot slots id me r new p k lot rest_of is_new free good front alone owns is_lot home t holds long seen small =
      let o = holds.0 in let shown = holds.1 in let fit = shown.views_fit id me.0 seen in let was = fit.is_owner r p owns in
      let new_to_it : Unseen shown.log me.0 p = unseen shown.log me.0 p (shown.history.tells id me.0 seen) alone in let w : View B = lost me.0 r p k lot new_to_it.others in
      let y : maybe.Option S = some (Some lot) in (
        w,
        gives,
        tt,
        (
          set o r k,
          subst (λ (z : ℕ × List (maybe.Option S)). Shows fits s (set o r k) (set t.words r z.0) z.1 (set t.views id w))
              (λ i. (sym is_new i, ap (λ (c : List (ℕ × S)). put_back t.homes c) (sym front) i))
              (moved fits s o t.words t.homes t.views shown id r me.0 w (Some (Process p)) k seen was.0 (gives_change o me.0 r p k lot new_to_it.others fit owns free)
              (giving p (number_of s.records r) k) lot
              (step_by shown.log me.0 w r p (Some (Process p)) k lot (λ n. giving p n k) (λ n. giving_is p n k free) shown.small (fit.knows p was.1) alone.0 (new_to_it.now _))
              (λ q m d e. absurd (gives_none p (number_of s.records r) q m d k e)) y good (home_is r k lot (subst (λ (z : Shape). IsLotAt z r lot) (fit.knows p was.1) is_lot) home)
              (λ d e. (refl, (p, ap (giving p (number_of s.records r)) e)))),
        ),
        (
          new_to_it.others,
          new_to_it.by,
          λ j l e has. let is : k ≡ j = word_injective k j (sym is_new ∙ e) in let same : lot ≡ l = same_lot r lot l me.1 rest_of (rest me.1) front has in
              (λ i. (lost me.0 r (sym new_to_it.placed i) (is i) (same i) new_to_it.others, rest me.1)),
        ),
      )

  -- a load
  pub looks : (slots id : ℕ) (me : M) (r p : ℕ) → r < slots → IsAlone me.0 p → Allows (Shown fits s) slots id me r (λ n. n) (looked (step slots r 0 0 none) me)
  looks slots id me r p inside alone t holds long seen small = let look = a_look slots id me r p inside alone t holds long seen in (look.0, keeps, tt, look.1, look.2)

  -- a load by a seat that was told what another had seen
  pub compares : (slots id : ℕ) (me : M) (r : ℕ) (own note : ℕ × List (Deed B)) → r < slots → me.0.fronts ≡ own ∷ note ∷ []
      → Allows (Shown fits s) slots id me r (λ n. n) (compared (step slots r 0 0 none) me)
  compares slots id me r own note inside two t holds long seen small =
      let a : At t holds.0 r = at t holds.0 r slots holds.1 long inside in
      let told = holds.1.history.tells id me.0 seen in
      let first : head_of me.0.fronts ≡ own ∷ [] = ap (λ (z : List (ℕ × List (Deed B))). head_of z) two in
      let kept : (q : ℕ) (f : List (Deed B)) → Among (head_of me.0.fronts) (q, f) → Among me.0.fronts (q, f) = λ q f there.
      subst (λ (z : List (ℕ × List (Deed B))). Among z (q, f)) (sym two) (inl (only_one (subst (λ (z : List (ℕ × List (Deed B))). Among z (q, f)) first there))) in (
        record me.0 { fronts = head_of me.0.fronts },
        keeps,
        tt,
        stays t id me r (get_or t.words r 0) (head_of me.0.fronts) holds seen a.word_at
            record { begins = λ q f there. told.begins q f (kept q f there); only = λ q f there few. told.only q f (kept q f there) few },
        (
          refl,
          λ x y is. one_log holds.1.log x.1 y.1 (told.begins x.0 x.1 (subst (λ (z : List (ℕ × List (Deed B))). Among z x) (sym is) (inl refl)))
              (told.begins y.0 y.1 (subst (λ (z : List (ℕ × List (Deed B))). Among z y) (sym is) (inr (inl refl)))),
        ),
      )
