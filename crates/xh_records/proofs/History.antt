-- The log of all events, as it grows, and the views' fronts.
use Rattle.xh_records.proofs.Common.{nat_tests, ◌≡◌, ℕ, ◌<◌, ◌≢◌, List, [], ◌∷◌, ◌++◌, length, set, get_or, sym, refl, ap, ◌∙◌, subst, inl, inr, arith, append_assoc}
use Rattle.xh_records.proofs.Common.{append-nil, mod-lt, some, get_elem?, at_set, Event, Ownership, IsDone, place_of, Among, among_either, Shape, View, IsOneLog, LeadsTo}
use Rattle.xh_records.proofs.Common.{StartsWith, None, replicate, process_of, Sits, ViewTells, IsHistory, IsOthers, IsAlone, adds, first_history, front_in, none_yet, tail_of, Accept, Deed}
use Rattle.xh_records.proofs.Common.{◌%◌, MAX_RECORDS, IsHolder, record_of, to_of, IsLeft, deeds_by, events}
use Rattle.xh_records.proofs.Deeds.{arrives_more, deeds_append, deeds_same, events_more}
use Rattle.xh_records.proofs.Elements.{either_way, only_one}
use Rattle.xh_records.specs.inner.Steps.{process_in}

-- one more event
pub leads_more : (n : ℕ) (o m o' : Ownership) (log : List Event) (e : Event) → LeadsTo n o log m → IsDone n m e o'
    → (record_of e % MAX_RECORDS < n) × IsHolder (to_of e) → LeadsTo n o (log ++ e ∷ []) o'
leads_more n o m o' [] e leads done inside = (o', subst (λ (z : Ownership). IsDone n z e o') leads done, inside, refl)
leads_more n o m o' (x ∷ xs) e leads done inside = (leads.0, leads.1, leads.2, leads_more n leads.0 m o' xs e leads.3 done inside)

pub starts_twice : {X : Type 0} (a b c : List X) → StartsWith b a → StartsWith c b → StartsWith c a
starts_twice {X} a b c x y = (x.0 ++ y.0, y.1 ∙ ap (λ (z : List X). z ++ y.0) x.1 ∙ append_assoc a x.0 y.0)

pub starts_itself : {X : Type 0} (a : List X) → StartsWith a a
starts_itself a = ([], sym (append-nil a))

-- two beginnings of one log
pub one_log : {X : Type 0} (log a b : List X) → StartsWith log a → StartsWith log b → IsOneLog a b
one_log log [] b x y = inr (b, refl)
one_log log (p ∷ a) [] x y = inl (p ∷ a, refl)
one_log log (p ∷ a) (q ∷ b) x y =
    let same : p ∷ (a ++ x.0) ≡ q ∷ (b ++ y.0) = sym x.1 ∙ y.1 in
    let first : p ≡ q = cc in
    let rest : a ++ x.0 ≡ b ++ y.0 = cc in either_way (one_log (a ++ x.0) a b (x.0, refl) (y.0, rest)) (λ t. inl (t.0, λ i. first i ∷ t.1 i)) (λ t. inr (t.0, λ i. sym first i ∷ t.1 i))

no_more : {X : Type 0} (xs ys : List X) → xs ≡ xs ++ ys → ys ≡ []
no_more [] ys e = sym e
no_more {X} (x ∷ xs) ys e = no_more xs ys (ap (λ (z : List X). tail_of z) e)

-- an entry of a list of one
pub one_is : {X : Type 0} (l : List (ℕ × List X)) (q k : ℕ) (es fs : List X) → l ≡ (k, fs) ∷ [] → Among l (q, es) → (q ≡ k) × (es ≡ fs)
one_is l q k es fs is there = grind (arith, nat_tests, only_one)

-- a view of one process that has seen the whole log
pub tells_all : {B : Type 0} (log : List (Deed B)) (w : View B) (p : ℕ) → Sits w p → w.fronts ≡ (place_of p, log) ∷ [] → ViewTells log w
tells_all log w p sits one = record {
  begins = λ q f there. subst (StartsWith log) (sym (one_is w.fronts q (place_of p) f log one there).1) (starts_itself log);
  only = λ q f there few. let is = one_is w.fronts q (place_of p) f log one there in (p, sits, is.0, ap (deeds_by q) is.1);
}

-- what the seat of a process hasn't seen of the log is of others, and what it has seen once it did its own
pub record Unseen {B : Type 0} (log : List (Deed B)) (v : View B) (p : ℕ) : Type 0 where
  pub others : List (Deed B)
  pub sits : Sits v p
  pub placed : process_in v ≡ p
  pub by : IsOthers v others
  pub now : (own : List (Deed B)) → adds (others ++ own) v.fronts ≡ (place_of p, log ++ own) ∷ []

pub unseen : {B : Type 0} (log : List (Deed B)) (v : View B) (p : ℕ) → ViewTells log v → IsAlone v p → Unseen log v p
unseen {B} log v p tells alone =
    let q : ℕ = place_of p in let f : List (Deed B) = front_in v in
    let there : Among v.fronts (q, f) = subst (λ (z : List (ℕ × List (Deed B))). Among z (q, f)) (sym alone.1) (inl refl) in
    let placed : process_in v ≡ p = ap (λ (l : List ℕ). get_or l 0 0) alone.0 in
    let more = tells.begins q f there in record {
      others = more.0;
      sits = subst (λ (k : List ℕ). Among k p) (sym alone.0) (inl refl);
      placed = placed;
      by = ap (λ (x : ℕ). deeds_by (place_of x) more.0) placed
          ∙ no_more (deeds_by q f) (deeds_by q more.0) ((tells.only q f there (mod-lt p (omega arith))).3 ∙ ap (deeds_by q) more.1 ∙ deeds_append q f more.0);
      now = λ own. ap (adds (more.0 ++ own)) alone.1 ∙ ap (λ (z : List (Deed B)). (q, z) ∷ []) (sym (append_assoc f more.0 own) ∙ ap (λ (z : List (Deed B)). z ++ own) (sym more.1));
    }

-- the view of others
tells_others : {B : Type 0} (log : List (Deed B)) (u : View B) (d : Deed B) → ViewTells log u → ((p : ℕ) → Sits u p → place_of (process_of d.0) ≢ place_of p) → ViewTells (log ++ d ∷ []) u
tells_others log u d tells apart = record {
  begins = λ q f there. starts_twice f log (log ++ d ∷ []) (tells.begins q f there) (d ∷ [], refl);
  only = λ q f there few. let t = tells.only q f there few in (t.0, t.1, t.2, t.3 ∙ sym (deeds_same q log d (λ is. apart t.0 t.1 (is ∙ t.2))));
}

-- one more event, by the seat id
pub more_history : {B : Type 0} (s : Shape) (o o' : Ownership) (views : List (View B)) (log : List (Deed B)) (id : ℕ) (w : View B) (d : Deed B) → IsHistory s o views log
    → IsDone s.records o d.0 o' → (record_of d.0 % MAX_RECORDS < s.records) × IsHolder (to_of d.0) → length o' ≡ length o → place_of (process_of d.0) < s.places
    → Sits w (process_of d.0) → w.fronts ≡ (place_of (process_of d.0), log ++ d ∷ []) ∷ []
    → ((p r n : ℕ) → d.0 ≡ Accept p r n → IsLeft log r n d.1)
    → ((j p : ℕ) (u : View B) → j ≢ id → get_elem? views j ≡ some u → Sits u p → place_of (process_of d.0) ≢ place_of p) → IsHistory s o' (set views id w) (log ++ d ∷ [])
more_history s o o' views log id w d old done there long inside sits one was apart = record {
  leads = subst (λ (z : ℕ × List Event). LeadsTo s.records (replicate z.0 None) z.1 o') (λ i. (sym long i, sym (events_more log d) i))
      (leads_more s.records (replicate (length o) None) o o' (events log) d.0 old.leads done there);
  theirs = λ x among. either_way (among_either (events log) (d.0 ∷ []) x (subst (λ (z : List Event). Among z x) (events_more log d) among)) (λ a. old.theirs x a)
      (λ b. subst (λ (z : Event). place_of (process_of z) < s.places) (sym (only_one b)) inside);
  tells = λ j u at. either_way (at_set views id j w u at)
      (λ t. subst (ViewTells (log ++ d ∷ [])) t.1 (tells_all (log ++ d ∷ []) w (process_of d.0) sits one))
      (λ t. tells_others log u d (old.tells j u t.1) (λ p sits. apart j p u t.0 t.1 sits));
  arrives = arrives_more log d old.arrives was;
}

-- the one front of a view, and more events in it
pub adds_one : {X : Type 0} (es : List X) (q : ℕ) (l : List (ℕ × List X)) → l ≡ (q, first_history l) ∷ [] → (first_history (adds es l) ≡ first_history l ++ es) × (adds es l ≡ (q, first_history (adds es l)) ∷ [])
adds_one es q l one = grind (arith, nat_tests)

-- of places with nothing yet
pub lists_back : {X : Type 0} (ps : List ℕ) (q : ℕ) (es : List X) → Among (none_yet ps) (q, es) → (p : ℕ) × Among ps p × (q ≡ place_of p) × (es ≡ [])
lists_back [] q es h = absurd h
lists_back (x ∷ xs) q es h = grind (arith, nat_tests, lists_back xs q es)
