-- A view cut in two, and two views in one.
use Rattle.xh_records.proofs.Common.{nat_tests, ◌≡◌, ℕ, suc, ◌<◌, ◌≢◌, Bool, List, [], ◌∷◌, ◌++◌, map, length, set, sym, refl, ◌∙◌, subst, ◌⊎◌, inl, inr, arith, length-set, Option, Some, Process}
use Rattle.xh_records.proofs.Common.{some, get_elem?, Splits, Joins, at_set, set_else, LotOf, Among, Distinct, among_back, among_either, among_front, Shape, View, Ownership}
use Rattle.xh_records.proofs.Common.{IsHeldBy, place_of, PLACES, StartsWith, Sits, Owns, ViewFits, ViewTells, Shows, Shown, IsAlone, front_in, note_of, spent, joined, dealt, dealt_from}
use Rattle.xh_records.proofs.Common.{dealer, IsDealer, places_from}
use Rattle.xh_records.proofs.Common.{Deed}
use mathlib.Core.Option as maybe
use Rattle.xh_records.proofs.History.{one_is, lists_back}
use Rattle.xh_records.proofs.Common.{ap, at_last, at_longer, set_here, dite, ℕ_discrete, some-injective}
use Rattle.xh_records.proofs.Elements.{either_way, in_range, only_one, snoc_at}
use Rattle.xh_records.proofs.Distinct.{distinct_places, least}

-- a part of a view: all that the view has of some of its processes
pub record Part {B : Type 0} (v u : View B) : Type 0 where
  pub sits : (p : ℕ) → Sits u p → Sits v p
  pub record_of : (k p : ℕ) → Owns u k p → Owns v k p × (Sits v p → Sits u p)
  pub all_records : (k p : ℕ) → Owns v k p → Sits u p → Owns u k p
  pub same_shape : (p : ℕ) → Sits u p → u.shape ≡ v.shape
  pub tells : (log : List (Deed B)) → ViewTells log v → ViewTells log u
  pub places : Distinct (map place_of v.processes) → Distinct (map place_of u.processes)

-- one that stands for no place
bare : {B : Type 0} (v u : View B) → u.processes ≡ [] → u.records ≡ [] → ((log : List (Deed B)) → ViewTells log v → ViewTells log u) → Part v u
bare v u no_place no_record tells = grind (arith, nat_tests)

nothing : {B : Type 0} (v : View B) → Part v spent
nothing v = grind (arith, nat_tests)

a_note : {B : Type 0} (v : View B) (p : ℕ) → IsAlone v p → Part v (note_of v)
a_note {B} v p alone = bare v (note_of v) refl refl (λ log told. record {
  begins = λ q f h. subst (StartsWith log) (sym (one_is (note_of v).fronts q PLACES f (front_in v) refl h).1)
      (told.begins (place_of p) (front_in v) (subst (λ (z : List (ℕ × List (Deed B))). Among z (place_of p, front_in v)) (sym alone.1) (inl refl)));
  only = λ q f h few. absurd (let e : q ≡ PLACES = (one_is (note_of v).fronts q PLACES f (front_in v) refl h).0 in omega arith);
})

everything : {B : Type 0} (v : View B) → Part v v
everything v = grind (arith, nat_tests)

-- a part fits the ownership, and tells of its events, as the whole does
part_shows : {B : Type 0} (s : Shape) (o : Ownership) (log : List (Deed B)) (v u : View B) → Part v u → ViewFits s o v → ViewTells log v → ViewFits s o u × ViewTells log u
part_shows s o log v u part fit tells = grind (arith, nat_tests)

-- a table that shows an ownership still does where its seats have these views now
pub reseats : {B : Type 0} (fits : B → ℕ → Bool) (s : Shape) (o : Ownership) (ws : List ℕ) (hs : List (maybe.Option (Option (LotOf B)))) (vs now : List (View B)) (shown : Shows fits s o ws hs vs)
    → ((k p id q : ℕ) (v : View B) → IsHeldBy o k (Some (Process p)) → get_elem? now id ≡ some v → Sits v q → place_of q ≡ place_of p → q ≡ p)
    → ((q : ℕ) → q < s.places → (id p : ℕ) × (v : View B) × (get_elem? now id ≡ some v) × Sits v p × (place_of p ≡ q))
    → ((id p : ℕ) (v : View B) → get_elem? now id ≡ some v → Sits v p → (place_of p < s.places) × (p < 65504))
    → ((i j p q : ℕ) (u v : View B) → get_elem? now i ≡ some u → get_elem? now j ≡ some v → Sits u p → Sits v q → place_of p ≡ place_of q → (i ≡ j) × (p ≡ q))
    → ((id : ℕ) (v : View B) → get_elem? now id ≡ some v → ViewFits s o v × ViewTells shown.log v) → Shows fits s o ws hs now
reseats fits s o ws hs vs now shown latest seated inside alone each = record {
  words_are = shown.words_are;
  holders = shown.holders;
  homes_long = shown.homes_long;
  homes_are = shown.homes_are;
  placed = shown.placed;
  latest = latest;
  seated = seated;
  inside = inside;
  alone = alone;
  views_fit = λ id v at. (each id v at).0;
  small = shown.small;
  log = shown.log;
  history = record { leads = shown.history.leads; theirs = shown.history.theirs; tells = λ id v at. (each id v at).1; arrives = shown.history.arrives };
  left = shown.left;
}

-- where they stand for the processes of the views before, for all of them, and no two of them for one
pub shares_out : {B : Type 0} (fits : B → ℕ → Bool) (s : Shape) (o : Ownership) (ws : List ℕ) (hs : List (maybe.Option (Option (LotOf B)))) (vs now : List (View B)) (shown : Shows fits s o ws hs vs)
    → ((j p : ℕ) (u : View B) → get_elem? now j ≡ some u → Sits u p → (i : ℕ) × (v : View B) × (get_elem? vs i ≡ some v) × Sits v p)
    → ((i p : ℕ) (v : View B) → get_elem? vs i ≡ some v → Sits v p → (j : ℕ) × (u : View B) × (get_elem? now j ≡ some u) × Sits u p)
    → ((i j p : ℕ) (u v : View B) → get_elem? now i ≡ some u → get_elem? now j ≡ some v → Sits u p → Sits v p → i ≡ j)
    → ((id : ℕ) (v : View B) → get_elem? now id ≡ some v → ViewFits s o v × ViewTells shown.log v) → Shows fits s o ws hs now
shares_out fits s o ws hs vs now shown from stays one each = reseats fits s o ws hs vs now shown
    (λ k p id q v is at sits same. let f = from id q v at sits in shown.latest k p f.0 q f.1 is f.2 f.3 same)
    (λ q below. let f = shown.seated q below in let g = stays f.0 f.1 f.2 f.3 f.4 in (g.0, f.1, g.1, g.2, g.3, f.5))
    (λ id p v at sits. let f = from id p v at sits in shown.inside f.0 p f.1 f.2 f.3)
    (λ i j p q u v at_i at_j sits sits' same. let f = from i p u at_i sits in let g = from j q v at_j sits' in let e = (shown.alone f.0 g.0 p q f.1 g.1 f.2 g.2 f.3 g.3 same).1 in
    (one i j p u v at_i at_j sits (subst (Sits v) (sym e) sits'), e))
    each

-- each process that a view stands for still has one there where one seat's view stands for the same processes as before
pub stands : {B : Type 0} (vs : List (View B)) (id : ℕ) (v w : View B) → get_elem? vs id ≡ some v → w.processes ≡ v.processes → (i p : ℕ) (u : View B) → get_elem? vs i ≡ some u → Sits u p
    → (z : View B) × (get_elem? (set vs id w) i ≡ some z) × Sits z p
stands {B} vs id v w at same i p u there sits = dite (ℕ_discrete i id)
    (λ e. (
      w,
      ap (get_elem? (set vs id w)) e ∙ set_here vs id w (in_range vs id v at),
      subst (λ (l : List ℕ). Among l p) (sym same) (subst (λ (z : View B). Sits z p) (some-injective u v (sym there ∙ ap (get_elem? vs) e ∙ at)) sits),
    ))
    (λ n. (u, set_else vs id i w n ∙ there, sits))

-- so it does after such a step of one seat
pub still_seated : {B : Type 0} (fits : B → ℕ → Bool) (s : Shape) (o : Ownership) (ws : List ℕ) (hs : List (maybe.Option (Option (LotOf B)))) (vs : List (View B)) (shown : Shows fits s o ws hs vs)
    (id : ℕ) (v w : View B) → get_elem? vs id ≡ some v → w.processes ≡ v.processes → (q : ℕ) → q < s.places
    → (i p : ℕ) × (u : View B) × (get_elem? (set vs id w) i ≡ some u) × Sits u p × (place_of p ≡ q)
still_seated fits s o ws hs vs shown id v w at same q below = let f = shown.seated q below in let g = stands vs id v w at same f.0 f.1 f.2 f.3 f.4 in (f.0, f.1, g.0, g.1, g.2, f.5)

-- where one seat's view stands for the same processes as before, each view stands for those of the one before
pub sat : {B : Type 0} (vs : List (View B)) (id : ℕ) (v w : View B) → get_elem? vs id ≡ some v → w.processes ≡ v.processes → (j p : ℕ) (u : View B) → get_elem? (set vs id w) j ≡ some u → Sits u p
    → (z : View B) × (get_elem? vs j ≡ some z) × Sits z p
sat vs id v w at same j p u there sits = grind (arith, nat_tests, at_set)

module _ {B : Type 0} (fits : B → ℕ → Bool) (s : Shape) where
  cuts : (id : ℕ) (v l r : View B) → Part v l → Part v r → ((p : ℕ) → Sits v p → Sits l p ⊎ Sits r p) → ((p : ℕ) → Sits l p → Sits r p → ⊥) → Splits (Shown {B = B} fits s) id v l r
  cuts id v l r keeps hands either apart t holds here = (holds.0, shares_out fits s o t.words t.homes t.views (set t.views id l ++ r ∷ []) shown from stays one each)
    where
      o : Ownership
      o = holds.0

      shown : Shows fits s o t.words t.homes t.views
      shown = holds.1

      there : (j : ℕ) (u : View B) → get_elem? (set t.views id l ++ r ∷ []) j ≡ some u → (((j ≡ id) × (l ≡ u)) ⊎ ((j ≢ id) × (get_elem? t.views j ≡ some u))) ⊎ ((r ≡ u) × (j ≡ length t.views))
      there j u e = grind (arith, nat_tests, at_set, length-set, snoc_at)

      from : (j p : ℕ) (u : View B) → get_elem? (set t.views id l ++ r ∷ []) j ≡ some u → Sits u p → (i : ℕ) × (z : View B) × (get_elem? t.views i ≡ some z) × Sits z p
      from j p u e sits = either_way (there j u e)
          (λ a. either_way a (λ x. (id, v, here, keeps.sits p (subst (λ (z : View B). Sits z p) (sym x.1) sits))) (λ x. (j, u, x.1, sits)))
          (λ x. (id, v, here, hands.sits p (subst (λ (z : View B). Sits z p) (sym x.0) sits)))

      stays : (i p : ℕ) (u : View B) → get_elem? t.views i ≡ some u → Sits u p → (j : ℕ) × (z : View B) × (get_elem? (set t.views id l ++ r ∷ []) j ≡ some z) × Sits z p
      stays i p u at sits = dite (ℕ_discrete i id)
          (λ e. either_way (either p (subst (λ (z : View B). Sits z p) (some-injective u v (sym at ∙ ap (get_elem? t.views) e ∙ here)) sits))
          (λ a. (id, l, at_longer (set t.views id l) (r ∷ []) id l (set_here t.views id l (in_range t.views id v here)), a))
          (λ b. (length t.views, r, at_last (set t.views id l) r (length t.views) (length-set t.views id l), b)))
          (λ n. (i, u, at_longer (set t.views id l) (r ∷ []) i u (set_else t.views id i l n ∙ at), sits))

      one : (i j p : ℕ) (u z : View B) → get_elem? (set t.views id l ++ r ∷ []) i ≡ some u → get_elem? (set t.views id l ++ r ∷ []) j ≡ some z → Sits u p → Sits z p → i ≡ j
      one i j p u z at_i at_j sits sits' = grind (arith, nat_tests, there, apart, keeps.sits, hands.sits, shown.alone)

      part_is : (z u : View B) → Part v z → z ≡ u → ViewFits s o u × ViewTells shown.log u
      part_is z u whole e = subst (λ (y : View B). ViewFits s o y × ViewTells shown.log y) e (part_shows s o shown.log v z whole (shown.views_fit id v here) (shown.history.tells id v here))

      each : (j : ℕ) (u : View B) → get_elem? (set t.views id l ++ r ∷ []) j ≡ some u → ViewFits s o u × ViewTells shown.log u
      each j u e = either_way (there j u e) (λ a. either_way a (λ x. part_is l u keeps x.1) (λ x. (shown.views_fit j u x.1, shown.history.tells j u x.1))) (λ x. part_is r u hands x.0)

  -- the joining seat has a place
  pub joins_both : (id other p₀ : ℕ) (v w : View B) → Sits v p₀ → Joins (Shown {B = B} fits s) id v other w (joined v w) spent
  joins_both id other p₀ v w placed t holds here apart there_too =
      (holds.0, shares_out fits s o t.words t.homes t.views now shown (λ j p u e sits. let f = from j p u e sits in (f.0, f.1, f.2, f.3)) stays one each)
    where
      o : Ownership
      o = holds.0

      shown : Shows fits s o t.words t.homes t.views
      shown = holds.1

      w_here : get_elem? t.views other ≡ some w
      w_here = sym (set_else t.views id other (joined v w) apart) ∙ there_too

      both : View B
      both = joined v w

      now : List (View B)
      now = set (set t.views id both) other spent

      fit_v : ViewFits s o v
      fit_v = shown.views_fit id v here

      fit_w : ViewFits s o w
      fit_w = shown.views_fit other w w_here

      -- no process is in both
      two : (p q : ℕ) → Sits v p → Sits w q → place_of p ≡ place_of q → ⊥
      two p q a b e = apart (sym (shown.alone id other p q v w here w_here a b e).0)

      both_fits : ViewFits s o both
      both_fits = grind (arith, nat_tests, fit_v, among_front, fit_w, among_back, among_either, distinct_places, two)

      told_v : ViewTells shown.log v
      told_v = shown.history.tells id v here

      told_w : ViewTells shown.log w
      told_w = shown.history.tells other w w_here

      both_tells : ViewTells shown.log both
      both_tells = record {
        begins = λ q f there. either_way (among_either v.fronts w.fronts (q, f) there) (told_v.begins q f) (told_w.begins q f);
        only = λ q f there few. grind (arith, nat_tests, there, told_v, among_front, told_w, among_back, among_either);
      }

      there : (j : ℕ) (u : View B) → get_elem? now j ≡ some u → ((j ≡ other) × (spent ≡ u)) ⊎ ((j ≢ other) × (((j ≡ id) × (both ≡ u)) ⊎ ((j ≢ id) × (get_elem? t.views j ≡ some u))))
      there j u e = grind (arith, nat_tests, both, at_set)

      from : (j p : ℕ) (u : View B) → get_elem? now j ≡ some u → Sits u p → (i : ℕ) × (z : View B) × (get_elem? t.views i ≡ some z) × Sits z p × (j ≢ other) × ((j ≡ i) ⊎ ((j ≡ id) × (i ≡ other)))
      from j p u e sits = either_way (there j u e) (λ a. absurd (subst (λ (z : View B). Sits z p) (sym a.1) sits)) (λ b. either_way b.1
          (λ x. either_way (among_either v.processes w.processes p (subst (λ (z : View B). Sits z p) (sym x.1) sits))
          (λ in_v. (id, v, here, in_v, b.0, inl x.0)) (λ in_w. (other, w, w_here, in_w, b.0, inr (x.0, refl))))
          (λ x. (j, u, x.1, sits, b.0, inl refl)))

      at_id : get_elem? now id ≡ some both
      at_id = set_else (set t.views id both) other id spent (λ e. apart (sym e)) ∙ set_here t.views id both (in_range t.views id v here)

      stays : (i p : ℕ) (u : View B) → get_elem? t.views i ≡ some u → Sits u p → (j : ℕ) × (z : View B) × (get_elem? now j ≡ some z) × Sits z p
      stays i p u at sits = dite (ℕ_discrete i other)
          (λ e. (id, both, at_id, among_back v.processes w.processes p (subst (λ (z : View B). Sits z p) (some-injective u w (sym at ∙ ap (get_elem? t.views) e ∙ w_here)) sits)))
          (λ n. dite (ℕ_discrete i id)
          (λ e. (id, both, at_id, among_front v.processes w.processes p (subst (λ (z : View B). Sits z p) (some-injective u v (sym at ∙ ap (get_elem? t.views) e ∙ here)) sits)))
          (λ m. (i, u, set_else (set t.views id both) other i spent n ∙ (set_else t.views id i both m ∙ at), sits)))

      one : (i j p : ℕ) (u z : View B) → get_elem? now i ≡ some u → get_elem? now j ≡ some z → Sits u p → Sits z p → i ≡ j
      one i j p u z at_i at_j sits sits' = let f = from i p u at_i sits in let g = from j p z at_j sits' in
          let same : f.0 ≡ g.0 = (shown.alone f.0 g.0 p p f.1 g.1 f.2 g.2 f.3 g.3 refl).0 in grind (arith, nat_tests)

      each : (j : ℕ) (u : View B) → get_elem? now j ≡ some u → ViewFits s o u × ViewTells shown.log u
      each j u e = either_way (there j u e) (λ a. subst (λ (z : View B). ViewFits s o z × ViewTells shown.log z) a.1 (part_shows s o shown.log v spent (nothing v) fit_v told_v)) (λ b. either_way b.1
          (λ x. subst (λ (z : View B). ViewFits s o z × ViewTells shown.log z) x.1 (both_fits, both_tells)) (λ x. (shown.views_fit j u x.1, shown.history.tells j u x.1)))

-- a new seat of one place
later_places : {B : Type 0} (s : Shape) (p k : ℕ) → Part {B = B} (dealer s p (suc k)) (dealer s (suc p) k)
later_places s p k = record {
  sits = λ q h. inr h;
  record_of = λ r q h. absurd h;
  all_records = λ r q h sits. h;
  same_shape = λ q h. refl;
  tells = λ log told. record {
    begins = λ q f h. told.begins q f (inr h);
    only = λ q f h few. let t = lists_back (places_from (suc p) k) q f h in (t.0, t.1, t.2, (told.only q f (inr h) few).3);
  };
  places = λ d. d.1;
}

first_place : {B : Type 0} (s : Shape) (p k : ℕ) → Part {B = B} (dealer s p (suc k)) (dealt (dealer s p (suc k)))
first_place s p k = record {
  sits = λ q h. inl (only_one h);
  record_of = λ r q h. absurd h;
  all_records = λ r q h sits. h;
  same_shape = λ q h. refl;
  tells = λ log told. record {
    begins = λ q f h. told.begins q f (inl (only_one h));
    only = λ q f h few. (p, inl refl, (one_is ((place_of p, []) ∷ []) q (place_of p) f [] refl h).0, (told.only q f (inl (only_one h)) few).3);
  };
  places = λ d. ((λ z. z), tt);
}

pub deals : {B : Type 0} (fits : B → ℕ → Bool) (s : Shape) (id : ℕ) (v : View B) → IsDealer v → Splits (Shown {B = B} fits s) id v (dealt_from v) (dealt v)
deals {B} fits s id v is =
    let z : Shape = is.0 in let p : ℕ = is.1 in let k : ℕ = is.2 in subst (λ (u : View B). Splits (Shown {B = B} fits s) id u (dealt_from u) (dealt u)) (sym is.3)
    (cuts fits s id (dealer z p (suc k)) (dealer z (suc p) k) (dealt (dealer z p (suc k))) (later_places z p k) (first_place z p k)
    (λ q h. either_way h (λ e. inr (inl e)) (λ t. inl t))
    (λ q h m. let l = (least (suc p) k q h).0 in let e : q ≡ p = only_one m in absurd (omega arith)))

pub hands_over : {B : Type 0} (fits : B → ℕ → Bool) (s : Shape) (id : ℕ) (v : View B) → Splits (Shown {B = B} fits s) id v spent v
hands_over fits s id v = cuts fits s id v spent v (nothing v) (everything v) (λ q h. inr h) (λ q h m. h)

pub notes : {B : Type 0} (fits : B → ℕ → Bool) (s : Shape) (id p : ℕ) (v : View B) → IsAlone v p → Splits (Shown {B = B} fits s) id v v (note_of v)
notes fits s id p v alone = cuts fits s id v v (note_of v) (everything v) (a_note v p alone) (λ q h. inl h) (λ q h m. m)
