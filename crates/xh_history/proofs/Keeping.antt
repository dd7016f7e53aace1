-- Each step keeps the rule.
use Rattle.std.proofs.Common.{◌≡◌, ◌≢◌, ℕ, zero, suc, ◌*◌, ◌<◌, ◌≤◌, List, [], ◌∷◌, ◌++◌, length, length-set, set, get_or, cond, eqb, refl, sym, ap, ◌∙◌, subst, ⊎_elim, arith, append_assoc}
use Rattle.std.proofs.Common.{append-nil, get_or-set_same, eqb-true, get_or-set_other, ltb, replicate}
use Rattle.std.proofs.lemmas.Bool.{cond_both, eqb-false}
use Rattle.std.proofs.lemmas.Bool.Decides.{nat_tests}
use Rattle.std.specs.Prelude.{Option, Some, max, slice_set, unwrap_or}
use Rattle.std.proofs.lemmas.List.{get_or-replicate, get_or_past, length-replicate}
use mathlib.Core.Option.{some, some-ne-none, some-injective}
use lib.ListN.{get_elem?}
use Rattle.atomic_table.specs.Table.{Allows, Joins, Me, Splits, State, keeps, opening, stepped}
use Rattle.atomic_table.proofs.Lists.{at_set, set_else}
use Rattle.xh_history.specs.declared.view.View.{View}
use Rattle.xh_model.specs.declared.limits.TheConstants.{PLACES}
use Rattle.xh_history.specs.Histories.{History, HasSeen, IsLastShown, StartsWith, calls_of, at, last_of}
use Rattle.xh_history.specs.inner.Views.{Fits, IsFront, IsFrontOrNone, IsPen, AreKeptHistories, Looked, Serves, ShowsNext, WritesPlace, all_words, both, given_before}
use Rattle.xh_history.specs.inner.Views.{kept_from, signed, spent, stride, view_from, with_calls}

-- the function with another value at one number
abbrev but : {A : Type 0} → (ℕ → A) → ℕ → A → ℕ → A
but f p x q = cond (eqb q p) x (f q)

-- what holds of each of its values
at_each : {A : Type 0} (P : ℕ → A → Type 0) (f : ℕ → A) (p : ℕ) (x : A) → P p x → ((q : ℕ) → q ≢ p → P q (f q)) → (q : ℕ) → P q (but f p x q)
at_each {A} P f p x here other q = cond_both (eqb q p) x (f q) (P q) (λ e. subst (λ (m : ℕ). P m x) (sym (eqb-true q p e)) here) (λ e. other q (eqb-false q p e))

-- who has the numbers, once those from one to before another are given to a seat
abbrev given : (ℕ → ℕ) → ℕ → ℕ → ℕ → ℕ → ℕ
given f low high to q = cond (ltb q high) (cond (ltb q low) (f q) to) (f q)

given_here : (f : ℕ → ℕ) (low high to q : ℕ) → (low ≤ q) × (q < high) → to ≡ given f low high to q
given_here f low high to q within = grind (arith, nat_tests)

given_else : (f : ℕ → ℕ) (low high to j q : ℕ) → j ≡ f q → ((low ≤ q) × (q < high) → ⊥) → j ≡ given f low high to q
given_else f low high to j q is out = grind (arith, nat_tests, is, out)

pub last_push : {A : Type 0} (xs : List A) (x : A) → last_of (xs ++ x ∷ []) ≡ Some x
last_push [] x = refl
last_push (y ∷ []) x = refl
last_push (y ∷ z ∷ zs) x = last_push (z ∷ zs) x

module _ {E : Type 0} (shows : ℕ → ℕ → E → Type 0) where
  calls_append : (k : ℕ) (xs ys : History E) → calls_of k (xs ++ ys) ≡ calls_of k xs ++ calls_of k ys
  calls_append k [] ys = refl
  calls_append k (c ∷ xs) ys = grind (arith, nat_tests, calls_append k xs ys)

  -- what one worker did is nothing of another's
  others_calls : (n k : ℕ) (es : List E) → n ≢ k → calls_of k (signed n es) ≡ []
  others_calls n k [] ne = refl
  others_calls n k (e ∷ es) ne = grind (arith, nat_tests, ne, others_calls n k es ne)

  -- the whole history was seen
  sees_all : (k : ℕ) (h seen : History E) → seen ≡ h → HasSeen k seen h
  sees_all k h seen e = ([], sym e ∙ sym (append-nil seen), refl)

  -- what other workers add to a history
  sees_more : (k : ℕ) (seen h more : History E) → HasSeen k seen h → calls_of k more ≡ [] → HasSeen k seen (h ++ more)
  sees_more k seen h more s no_calls = (
    s.0 ++ more,
    ap (λ l. l ++ more) s.1 ∙ append_assoc seen s.0 more,
    calls_append k s.0 more ∙ ap (λ l. l ++ calls_of k more) s.2 ∙ no_calls,
  )

  -- one view changes
  set_each : (Q : ℕ → View E → Type 0) (views : List (View E)) (id : ℕ) (w : View E) → Q id w → ((j : ℕ) (u : View E) → j ≢ id → get_elem? views j ≡ some u → Q j u)
      → (j : ℕ) (u : View E) → get_elem? (set views id w) j ≡ some u → Q j u
  set_each Q views id w here others j u e = ⊎_elim
      (λ (t : (j ≡ id) × (w ≡ u)). subst (λ (k : ℕ). Q k u) (sym t.0) (subst (λ (x : View E). Q id x) t.1 here))
      (λ (t : (j ≢ id) × (get_elem? views j ≡ some u)). others j u t.0 t.1)
      (at_set views id j w u e)

  -- and one more view
  push_each : (P : ℕ → View E → Type 0) (views : List (View E)) (w : View E) → ((j : ℕ) (u : View E) → get_elem? views j ≡ some u → P j u) → P (length views) w
      → (j : ℕ) (u : View E) → get_elem? (views ++ w ∷ []) j ≡ some u → P j u
  push_each P [] w all last zero u e = subst (λ (x : View E). P 0 x) (some-injective w u e) last
  push_each P [] w all last (suc j) u e = absurd (some-ne-none u (sym e))
  push_each P (x ∷ xs) w all last zero u e = all zero u e
  push_each P (x ∷ xs) w all last (suc j) u e = push_each (λ k y. P (suc k) y) xs w (λ k y t. all (suc k) y t) last j u e

  starts_itself : (seen h : History E) → h ≡ seen → StartsWith h seen
  starts_itself seen h e = ([], e ∙ sym (append-nil seen))

  starts_on : (a b c : History E) → StartsWith a b → StartsWith b c → StartsWith a c
  starts_on a b c x y = (y.0 ++ x.0, x.1 ∙ ap (λ (l : History E). l ++ x.0) y.1 ∙ append_assoc c y.0 x.0)

  -- A step after which a seat has seen the history of a place to its end, to which more came, or nothing. Nothing came where another seat writes the place, and no call of a worker whom another serves.
  extends : {S : Type 0} (times : ℕ) (s : State S (View E)) (told : AreKeptHistories shows s) (id word : ℕ) (me : Me S (View E)) (p m : ℕ) (mine new more : History E)
      → get_elem? s.views id ≡ some me.0 → word ≡ stride * suc p → p < PLACES → p < length me.0.fronts → new ≡ told.0 p ++ more → IsLastShown shows p new m → ((q : ℕ) → WritesPlace me.0 q → mine ≡ but told.0 p new q)
      → ((j : ℕ) (u : View E) → j ≢ id → Fits told.0 told.1 told.2 j u → (WritesPlace u p → more ≡ []) × ((k : ℕ) → Serves u k → calls_of k more ≡ []))
      → AreKeptHistories shows (stepped s word m id me.1 (record me.0 { history = mine; fronts = slice_set me.0.fronts p new; looks = times }) keeps)
  extends times s told id word me p m mine new more here aligned inside long longer shown whole apart =
      let v : View E = me.0 in
      let h = told.0 in
      let h' = but h p new in
      let f = told.4 id v here in
      let w : View E = record v { history = mine; fronts = slice_set v.fronts p new; looks = times } in
      let ends : at w.fronts p ≡ new = get_or-set_same v.fronts p new [] long in
      let own : Fits h' told.1 told.2 id w = record {
        whole = whole;
        writer = f.writer;
        begun = at_each (λ q x. StartsWith x (at w.fronts q)) h p new (starts_itself (at w.fronts p) new (sym ends))
            (λ q ne. subst (λ (x : History E). StartsWith (h q) x) (sym (get_or-set_other v.fronts p q new [] ne)) (f.begun q));
        seen = λ k sv. at_each (λ q x. HasSeen k (at w.fronts q) x) h p new (sees_all k new (at w.fronts p) ends)
            (λ q ne. subst (λ (x : History E). HasSeen k x (h q)) (sym (get_or-set_other v.fronts p q new [] ne)) (f.seen k sv q));
        server = f.server;
      } in
      let other : (j : ℕ) (u : View E) → j ≢ id → get_elem? s.views j ≡ some u → Fits h' told.1 told.2 j u = λ j u ne e. let g = told.4 j u e in let t = apart j u ne g in record {
        whole = at_each (λ q x. WritesPlace u q → u.history ≡ x) h p new (λ st. g.whole p st ∙ sym (longer ∙ ap (λ (l : History E). h p ++ l) (t.0 st) ∙ append-nil (h p))) (λ q _. g.whole q);
        writer = g.writer;
        begun = at_each (λ q x. StartsWith x (at u.fronts q)) h p new (starts_on new (h p) (at u.fronts p) (more, longer) (g.begun p)) (λ q _. g.begun q);
        seen = λ k sv. at_each (λ q x. HasSeen k (at u.fronts q) x) h p new
            (subst (HasSeen k (at u.fronts p)) (sym longer) (sees_more k (at u.fronts p) (h p) more (g.seen k sv p) (t.1 k sv))) (λ q _. g.seen k sv q);
        server = g.server;
      } in
      let last = at_each (λ q x. q < PLACES → IsLastShown shows q x (get_or (set s.words word m) (stride * suc q) 0)) h p new
      (λ _. subst (λ (i : ℕ). IsLastShown shows p new (get_or (set s.words word m) i 0)) aligned (subst (IsLastShown shows p new) (sym (get_or-set_same s.words word m 0 (omega (arith, told.3.0, aligned, inside)))) shown))
      (λ q ne below. subst (IsLastShown shows q (h q)) (sym (get_or-set_other s.words word (stride * suc q) m 0 (λ e. ne (omega (arith, e, aligned))))) (told.3.1 q below)) in
      (h', told.1, told.2, (length-set s.words word m ∙ told.3.0, last), set_each (Fits h' told.1 told.2) s.views id w own other)

  -- a step by which the calls of the worker that the seat took in come to the history of its place, whose word is kept or becomes another, and shows the last of them
  pub adds : {S : Type 0} (slots id word number : ℕ) (stored : Option ℕ) (pen front : View E) (taken : List (ℕ × S)) (es : List E) → word ≡ stride * suc number
      → IsPen number pen → IsFront (front ∷ []) → ShowsNext shows number pen.history (pen.history ++ signed front.worker es) stored
      → Allows (AreKeptHistories shows) slots id (both pen front, taken) word (unwrap_or stored)
      (λ n w. (w ≡ (with_calls es (both pen front), taken)) × HasSeen front.worker (at front.fronts pen.place) pen.history)
  adds slots id word number stored pen front taken es aligned writer server shown s told len here fits =
      let v : View E = both pen front in
      let p : ℕ = v.place in
      let k : ℕ = v.worker in
      let n : ℕ = get_or s.words word 0 in
      let mine = told.4 id v here in
      let writes : WritesPlace v p = (omega arith, omega (arith, writer.is, writer.alone)) in
      let serves : Serves v k = (omega arith, omega (arith, server.alone)) in
      let whole = mine.whole p writes in
      let before : IsLastShown shows number pen.history n = rw (whole, writer.is, aligned) (told.3.1 number writer.place) in
      let new : History E = v.history ++ signed k es in (
        with_calls es v,
        keeps,
        tt,
        extends v.looks s told id word (v, taken) p (unwrap_or stored n) new new (signed k es) here (omega (arith, aligned, writer.is))
            (omega (arith, writer.place, writer.is)) (omega (arith, writer.place, writer.is, server.fronts)) (ap (λ (l : History E). l ++ signed k es) whole)
            (subst (λ (i : ℕ). IsLastShown shows i new (unwrap_or stored n)) (sym writer.is) (shown n before))
            (at_each (λ q x. WritesPlace v q → new ≡ x) told.0 p new (λ _. refl) (λ q ne st. absurd (ne (omega (arith, st.0, st.1, writer.is, writer.alone)))))
            (λ j u ne g. (
              λ st. absurd (ne (g.writer p st ∙ sym (mine.writer p writes))),
              λ j' sv. others_calls k j' es (λ same. ne (g.server j' sv ∙ ap told.2 (sym same) ∙ sym (mine.server k serves))),
            )),
        (refl, subst (HasSeen k (at v.fronts p)) (sym whole) (mine.seen k serves p)),
      )

  -- a look at a place's word
  pub looks : {S : Type 0} (slots id word p : ℕ) (me : Me S (View E)) → word ≡ stride * suc p → p < PLACES → length me.0.fronts ≡ PLACES
      → Allows (AreKeptHistories shows) slots id me word (λ n. n) (Looked shows p me)
  looks slots id word p me aligned inside long s told len here fits =
      let v : View E = me.0 in
      let mine = told.4 id v here in
      let later = (mine.begun p).0 in
      let new : History E = at v.fronts p ++ later in
      let there : new ≡ told.0 p = sym (mine.begun p).1 in
      let whole : WritesPlace v p → v.history ≡ new = λ st. mine.whole p st ∙ sym there in
      let shown : IsLastShown shows p new (get_or s.words word 0) = rw (there, aligned) (told.3.1 p inside) in (
        record v { fronts = slice_set v.fronts p new; looks = suc v.looks },
        keeps,
        tt,
        extends (suc v.looks) s told id word me p (get_or s.words word 0) v.history new [] here aligned inside (omega (arith, inside, long)) (there ∙ sym (append-nil (told.0 p))) shown
            (at_each (λ q x. WritesPlace v q → v.history ≡ x) told.0 p new whole (λ q _. mine.whole q)) (λ j u ne g. (λ _. refl, λ k sv. refl)),
        (later, refl, shown, whole, λ k sv. subst (HasSeen k (at v.fronts p)) (sym there) (mine.seen k sv p)),
      )

  -- a seat with some of the places and of the workers of another, which fits
  narrow : (h : ℕ → History E) (writer_of server_of writer_of' server_of' : ℕ → ℕ) (id id' p p' k k' : ℕ) (v : View E) → Fits h writer_of server_of id v
      → ((q : ℕ) → (p ≤ q) × (q < p') → WritesPlace v q × (id' ≡ writer_of' q)) → ((j : ℕ) → (k ≤ j) × (j < k') → Serves v j × (id' ≡ server_of' j))
      → Fits h writer_of' server_of' id' (record v { place = p; places_end = p'; worker = k; workers_end = k' })
  narrow h writer_of server_of writer_of' server_of' id id' p p' k k' v f places workers = record {
    whole = λ q st. f.whole q (places q st).0;
    writer = λ q st. (places q st).1;
    begun = f.begun;
    seen = λ j sv. f.seen j (workers j sv).0;
    server = λ j sv. (workers j sv).1;
  }

  -- a seat's first places and workers go to a new seat
  pub splits : {S : Type 0} (id p k : ℕ) (v : View E) → v.place ≤ p → p ≤ max v.place v.places_end → v.worker ≤ k → k ≤ max v.worker v.workers_end
      → Splits {S = S} (AreKeptHistories shows) id v (kept_from p k v) (given_before p k v)
  splits id p k v a b c d s told here =
      let f = told.4 id v here in
      let n = length (set s.views id (kept_from p k v)) in
      let writer_of = given told.1 v.place p n in
      let server_of = given told.2 v.worker k n in
      let places : (q : ℕ) → (v.place ≤ q) × (q < p) → WritesPlace v q = λ q st. (st.0, omega (arith, st.0, st.1, b)) in
      let workers : (j : ℕ) → (v.worker ≤ j) × (j < k) → Serves v j = λ j sv. (sv.0, omega (arith, sv.0, sv.1, d)) in
      let mine : Fits told.0 writer_of server_of id (kept_from p k v) = narrow told.0 told.1 told.2 writer_of server_of id id p v.places_end k v.workers_end v f
      (λ q st. let t : WritesPlace v q = (omega (arith, a, st.0), st.1) in (t, given_else told.1 v.place p n id q (f.writer q t) (λ st'. omega (arith, st.0, st'.1))))
      (λ j sv. let t : Serves v j = (omega (arith, c, sv.0), sv.1) in (t, given_else told.2 v.worker k n id j (f.server j t) (λ sv'. omega (arith, sv.0, sv'.1)))) in
      let new : Fits told.0 writer_of server_of n (given_before p k v) = narrow told.0 told.1 told.2 writer_of server_of id n v.place p v.worker k v f
      (λ q st. (places q st, given_here told.1 v.place p n q st)) (λ j sv. (workers j sv, given_here told.2 v.worker k n j sv)) in
      let other : (j : ℕ) (u : View E) → j ≢ id → get_elem? s.views j ≡ some u → Fits told.0 writer_of server_of j u = λ j u ne e. let g = told.4 j u e in
      narrow told.0 told.1 told.2 writer_of server_of j j u.place u.places_end u.worker u.workers_end u g
      (λ q st. (st, given_else told.1 v.place p n j q (g.writer q st) (λ st'. ne (g.writer q st ∙ sym (f.writer q (places q st'))))))
      (λ i sv. (sv, given_else told.2 v.worker k n j i (g.server i sv) (λ sv'. ne (g.server i sv ∙ sym (f.server i (workers i sv')))))) in (
        told.0,
        writer_of,
        server_of,
        told.3,
        push_each (Fits told.0 writer_of server_of) (set s.views id (kept_from p k v)) (given_before p k v) (set_each (Fits told.0 writer_of server_of) s.views id (kept_from p k v) mine other) new,
      )

  -- a seat takes in whom another serves, and what that has seen
  pub joins : {S : Type 0} (id : ℕ) (v : View E) (from : ℕ) (w : View E) → Joins {S = S} (AreKeptHistories shows) id v from w (both v w) spent
  joins id v from w s told here apart there =
      let f = told.4 id v here in
      let g : Fits told.0 told.1 told.2 from w = told.4 from w (sym (set_else s.views id from (both v w) apart) ∙ there) in
      let server_of = given told.2 w.worker w.workers_end id in
      let mine : Fits told.0 told.1 server_of id (both v w) = record { whole = f.whole; writer = f.writer; begun = g.begun; seen = g.seen; server = given_here told.2 w.worker w.workers_end id } in
      let nothing : Fits told.0 told.1 server_of from spent = record {
        whole = λ q st. absurd (omega (arith, st.1));
        writer = λ q st. absurd (omega (arith, st.1));
        begun = λ q. (told.0 q, refl);
        seen = λ k sv. absurd (omega (arith, sv.1));
        server = λ k sv. absurd (omega (arith, sv.1));
      } in
      let other : (j : ℕ) (u : View E) → j ≢ id → get_elem? s.views j ≡ some u → j ≢ from → Fits told.0 told.1 server_of j u = λ j u _ e ne. let x = told.4 j u e in
      narrow told.0 told.1 told.2 told.1 server_of j j u.place u.places_end u.worker u.workers_end u x (λ q st. (st, x.writer q st))
      (λ k sv. (sv, given_else told.2 w.worker w.workers_end id j k (x.server k sv) (λ sv'. ne (x.server k sv ∙ sym (g.server k sv'))))) in (
        told.0,
        told.1,
        server_of,
        told.3,
        set_each (Fits told.0 told.1 server_of) (set s.views id (both v w)) from spent nothing
            (λ j u ne e. set_each (λ i x. i ≢ from → Fits told.0 told.1 server_of i x) s.views id (both v w) (λ _. mine) other j u e ne),
      )

  empties : (n p : ℕ) → at {E = E} (replicate n []) p ≡ []
  empties n p = grind (arith, get_or-replicate, get_or_past, length-replicate)

  pub begins : (S : Type 0) → AreKeptHistories shows {S = S} (opening (replicate all_words 0) [] (view_from 0 0))
  begins S = (
    λ p. [],
    λ p. 0,
    λ k. 0,
    (refl, λ p below. get_or-replicate all_words (stride * suc p) 0 0 (omega (arith, below))),
    push_each (Fits (λ p. []) (λ p. 0) (λ k. 0)) [] (view_from 0 0) (λ j u e. absurd (some-ne-none u (sym e))) record {
      whole = λ p st. refl;
      writer = λ p st. refl;
      begun = λ p. starts_itself (at (replicate PLACES []) p) [] (sym (empties PLACES p));
      seen = λ k sv p. sees_all k [] (at (replicate PLACES []) p) (empties PLACES p);
      server = λ k sv. refl;
    },
  )

-- a pen is one still, once the worker whom it took in has gone again
pub stays_pen : {E : Type 0} (number : ℕ) (pen front w x y : View E) (es : List E) → IsPen number pen → IsFrontOrNone (front ∷ []) → x ≡ both pen front → y ≡ with_calls es x
    → w ≡ kept_from y.place (suc y.worker) y → IsPen number w
stays_pen {E = E} number pen front w x y es writer server a b c =
    subst (IsPen number) (sym (c ∙ ap (λ (v : View E). kept_from v.place (suc v.worker) v) (b ∙ ap (with_calls es) a))) record {
      place = writer.place;
      is = writer.is;
      alone = writer.alone;
      none = omega (arith, server.alone);
    }
