-- What was seen stays seen, and a word that was seen between two fronts was seen between wider ones.
use Rattle.xh_place.proofs.Words.{◌≡◌, ℕ, List, [], ◌∷◌, ◌++◌, append_assoc, append-nil, refl, sym, ap, ◌∙◌, subst, Event, Among, Shape, map, map-append}
use Rattle.xh_place.proofs.Words.{StartsWith, Body, Did, Item, SawAt, SawFull, item_of, place_of}
use Rattle.xh_place.proofs.Words.{Content, bytes, endpoint, direction_toward, drop, suc, zero, EndsWith, IsElsewhere, IsRecord, IsSeen, IsSeenAfter, IsSwept, Message, Sweeps, flat_map}
use Rattle.xh_place.proofs.Words.{inl, inr, ⊎_elim, dite, ℕ_discrete, here_first, not_here, Accept, Arrived, Held, LotOf, HasSeenWord}
use Rattle.xh_model.specs.Words.{process_of}
use Rattle.xh_records.specs.Deeds.{Adds, Arrives}
use Rattle.xh_place.specs.Endpoints.{AreFetched, AreGot, record_got}
use Rattle.xh_place.specs.Seen.{Sight, bears, brings}
use Rattle.xh_place.specs.declared.got.Got.{Got}
use Rattle.xh_place.specs.declared.got.Got.TheVariants.{Here, Missing}
use Rattle.xh_records.specs.Deeds.{Deed, deeds_by}
use Rattle.xh_records.proofs.Deeds.{deeds_append}

pub starts_same : {X : Type 0} {a b : List X} → b ≡ a → StartsWith b a
starts_same {X} {a} {b} e = ([], e ∙ sym (append-nil a))

pub starts_more : {X : Type 0} (a : List X) {b c : List X} → StartsWith b a → StartsWith c b → StartsWith c a
starts_more {X} a {b} {c} one two = (one.0 ++ two.0, two.1 ∙ ap (λ (l : List X). l ++ two.0) one.1 ∙ append_assoc a one.0 two.0)

-- ---- deeds

pub did_none : (p : ℕ) (a b : List (Deed Body)) → b ≡ a → Did p [] a b
did_none p a b e = ([], e ∙ sym (append-nil a), refl)

pub did_more : (p : ℕ) (es fs : List (Event × Item)) (a b c : List (Deed Body)) → Did p es a b → Did p fs b c → Did p (es ++ fs) a c
did_more p es fs a b c x y =
    let q : ℕ = place_of p in let shows : Deed Body → Event × Item = λ d. (d.0, item_of d.1) in (
      x.0 ++ y.0,
      y.1 ∙ ap (λ (l : List (Deed Body)). l ++ y.0) x.1 ∙ append_assoc a x.0 y.0,
      ap (map shows) (deeds_append q x.0 y.0) ∙ map-append shows (deeds_by q x.0) (deeds_by q y.0) ∙ (λ i. x.2 i ++ y.2 i),
    )

pub did_starts : (p : ℕ) (es : List (Event × Item)) (a b : List (Deed Body)) → Did p es a b → StartsWith b a
did_starts p es a b h = (h.0, h.1)

-- one of the place's own deeds stands in what was added
pub split_at : (q : ℕ) (more : List (Deed Body)) (d : Deed Body) → Among (deeds_by q more) d → (before : List (Deed Body)) × (after : List (Deed Body)) × (more ≡ before ++ d ∷ after)
split_at q [] d h = absurd h
split_at q (x ∷ xs) d h =
    let at : ℕ = place_of (process_of x.0) in
    let rest : Among (deeds_by q xs) d → (before : List (Deed Body)) × (after : List (Deed Body)) × (x ∷ xs ≡ before ++ d ∷ after) =
    λ a. let t = split_at q xs d a in (x ∷ t.0, t.1, ap (λ (l : List (Deed Body)). x ∷ l) t.2) in
    dite (ℕ_discrete at q)
    (λ e. ⊎_elim (λ (s : d ≡ x). ([], xs, ap (λ (z : Deed Body). z ∷ xs) (sym s))) rest
    (subst (λ (l : List (Deed Body)). Among l d) (here_first at q (x ∷ deeds_by q xs) (deeds_by q xs) e) h))
    (λ n. rest (subst (λ (l : List (Deed Body)). Among l d) (not_here at q (x ∷ deeds_by q xs) (deeds_by q xs) n) h))

-- ---- blocks that arrived

-- an accept, as the seat says it
pub arrived_last : (r d : ℕ) (l : LotOf Body) (x y : Held Body) → Adds (place_of x.process) ((Accept x.process r d, l) ∷ []) x.front y.front → Arrives y.front
    → Arrived x.process x.front y.front r d (item_of l)
arrived_last r d l x y h all =
    let own : Deed Body = (Accept x.process r d, l) in
    let s = split_at (place_of x.process) h.0 own (subst (λ (z : List (Deed Body)). Among z own) (sym h.2) (inl refl)) in
    let e : y.front ≡ (x.front ++ s.0) ++ own ∷ s.1 = h.1 ∙ ap (λ (z : List (Deed Body)). x.front ++ z) s.2 ∙ sym (append_assoc x.front s.0 (own ∷ s.1)) in
    (x.front ++ s.0, l, (s.0, refl), (s.1, e ∙ sym (append_assoc (x.front ++ s.0) (own ∷ []) s.1)), all (x.front ++ s.0) s.1 x.process r d l e, refl)

pub arrived_wide : (p : ℕ) (from to from' to' : List (Deed Body)) (r d : ℕ) (x : Item) → StartsWith from from' → StartsWith to' to → Arrived p from to r d x → Arrived p from' to' r d x
arrived_wide p from to from' to' r d x before after h = (h.0, h.1, starts_more from' before h.2, starts_more (h.0 ++ (Accept p r d, h.1) ∷ []) h.3 after, h.4, h.5)

-- ---- looks

-- a look, as the seat says it
pub looked : (x y : Held Body) (r word : ℕ) → HasSeenWord r word x y → SawAt x.shape x.front y.front r word
looked x y r word h = (y.front, (h.2.1.0, h.2.1.1), starts_same refl, h.1)

pub saw_wide : (s : Shape) (from to from' to' : List (Deed Body)) (r word : ℕ) → StartsWith from from' → StartsWith to' to → SawAt s from to r word → SawAt s from' to' r word
saw_wide s from to from' to' r word before after h = (h.0, starts_more from' before h.1, starts_more h.0 h.2 after, h.3)

-- what is known of a full arena with other records held, between wider fronts
pub full_wide : (p : ℕ) (held more : List ℕ) (s : Shape) (from to from' to' : List (Deed Body)) (arena : ℕ) → ((r : ℕ) → Among held r → Among more r) → StartsWith from from' → StartsWith to' to
    → SawFull p held s from to arena → SawFull p more s from' to' arena
full_wide p held more s from to from' to' arena kept before after h = λ r exists near. let look = h r exists near in
    (look.0, look.1, (λ own. kept r (look.2 own)), saw_wide s from to from' to' r look.0 before after look.3)

module _ (old new old' new' : Held Body) (shape : old.shape ≡ old'.shape) (process : old.process ≡ old'.process) (before : StartsWith old.front old'.front) (after : StartsWith new'.front new.front)
  where
    pub word_wide : (r word : ℕ) → SawAt old.shape old.front new.front r word → SawAt old'.shape old'.front new'.front r word
    word_wide r word h = subst (λ (s : Shape). SawAt s old'.front new'.front r word) shape (saw_wide old.shape old.front new.front old'.front new'.front r word before after h)

    pub seen_wide : (r : ℕ) (s : Sight) → IsSeen old new r s → IsSeen old' new' r s
    seen_wide r (bears word) h = ⊎_elim (λ w. inl (word_wide r word w)) (λ n. inr (subst (λ (s : Shape). (IsRecord s r → ⊥) × (word ≡ 0)) shape n)) h
    seen_wide r (brings d x) h = subst (λ (p : ℕ). Arrived p old'.front new'.front r d x) process (arrived_wide old.process old.front new.front old'.front new'.front r d x before after h)

pub after_wide : (d p : ℕ) (s : Shape) (from to from' : List (Deed Body)) → StartsWith from from' → (r : ℕ) (w : Sight) → IsSeenAfter d p s from to r w → IsSeenAfter d p s from' to r w
after_wide d p s from to from' before r (bears word) h = (h.0, h.1, starts_more from' before h.2, h.3)
after_wide d p s from to from' before r (brings way x) h = arrived_wide p from to from' to r way x before (starts_same refl) h

pub away_as : (P Q : ℕ → ℕ → Type 0) → ((r word : ℕ) → P r word → Q r word) → (d r : ℕ) → IsElsewhere P d r → IsElsewhere Q d r
away_as P Q f d r h = (h.0, h.1, f r h.0 h.2)

-- ---- what came back, where it isn't told what came

module _ (saw : ℕ → Sight → Type 0) where
  pub fetched : (d : ℕ) (ys : List (ℕ × Item)) (gots : List Got) → AreGot saw d ys gots → AreFetched saw d (map record_got gots) ys
  fetched d ys [] h = h
  fetched d ys (Here block kind ∷ gots) h = inl (h.0, h.1, h.2, h.4, fetched d h.1 gots h.5)
  fetched d ys (Missing r word ∷ gots) h = inr (word, h.0, h.1, fetched d ys gots h.2)

  pub fetched_both : (d : ℕ) (rs qs : List ℕ) (ys zs : List (ℕ × Item)) → AreFetched saw d rs ys → AreFetched saw d qs zs → AreFetched saw d (rs ++ qs) (ys ++ zs)
  fetched_both d [] qs ys zs all two = subst (λ (l : List (ℕ × Item)). AreFetched saw d qs (l ++ zs)) (sym all) two
  fetched_both d (r ∷ rs) qs ys zs one two = ⊎_elim (λ t. inl (t.0, t.1 ++ zs, ap (λ (l : List (ℕ × Item)). l ++ zs) t.2, t.3, fetched_both d rs qs t.1 zs t.4 two))
      (λ t. inr (t.0, t.1, t.2, fetched_both d rs qs ys zs t.3 two)) one

  pub got_both : (d : ℕ) (ys zs : List (ℕ × Item)) (gots more : List Got) → AreGot saw d ys gots → AreGot saw d zs more → AreGot saw d (ys ++ zs) (gots ++ more)
  got_both d ys zs [] more all two = subst (λ (l : List (ℕ × Item)). AreGot saw d (l ++ zs) more) (sym all) two
  got_both d ys zs (Here block kind ∷ gots) more h two =
      (h.0, h.1 ++ zs, ap (λ (l : List (ℕ × Item)). l ++ zs) h.2, h.3, h.4, got_both d h.1 zs gots more h.5 two)
  got_both d ys zs (Missing r word ∷ gots) more h two = (h.0, h.1, got_both d ys zs gots more h.2 two)

-- the same, where it is so at the records that are told of
pub given_got_as : (P Q : ℕ → Sight → Type 0) (d : ℕ) (ys : List (ℕ × Item)) (gots : List Got) → ((r : ℕ) → Among (map record_got gots) r → (s : Sight) → P r s → Q r s)
    → AreGot P d ys gots → AreGot Q d ys gots
given_got_as P Q d ys [] f h = h
given_got_as P Q d ys (Here block kind ∷ gots) f h = (h.0, h.1, h.2, h.3, f block.rec (inl refl) (brings d h.0) h.4, given_got_as P Q d h.1 gots (λ r a. f r (inr a)) h.5)
given_got_as P Q d ys (Missing r word ∷ gots) f h = (h.0, f r (inl refl) (bears word) h.1, given_got_as P Q d ys gots (λ q a. f q (inr a)) h.2)

module _ (P Q : ℕ → Sight → Type 0) (f : (r : ℕ) (s : Sight) → P r s → Q r s) where
  pub all_got_as : (d : ℕ) (ys : List (ℕ × Item)) (gots : List Got) → AreGot P d ys gots → AreGot Q d ys gots
  all_got_as d ys [] h = h
  all_got_as d ys (Here block kind ∷ gots) h = (h.0, h.1, h.2, h.3, f block.rec (brings d h.0) h.4, all_got_as d h.1 gots h.5)
  all_got_as d ys (Missing r word ∷ gots) h = (h.0, f r (bears word) h.1, all_got_as d ys gots h.2)

  pub all_fetched_as : (d : ℕ) (rs : List ℕ) (ys : List (ℕ × Item)) → AreFetched P d rs ys → AreFetched Q d rs ys
  all_fetched_as d [] ys h = h
  all_fetched_as d (r ∷ rs) ys h =
      ⊎_elim (λ t. inl (t.0, t.1, t.2, f r (brings d t.0) t.3, all_fetched_as d rs t.1 t.4)) (λ t. inr (t.0, t.1, f r (bears t.0) t.2, all_fetched_as d rs ys t.3)) h

  pub ends_as : (c : Content) (came : List (ℕ × Item)) → EndsWith P c came → EndsWith Q c came
  ends_as (bytes xs) came h = h
  ends_as (endpoint e) came h = (h.0, h.1, h.2, h.3, h.4, all_fetched_as (direction_toward (endpoint e)) (flat_map (λ (m : Message). m.blocks.items) h.0) came h.5)

  pub sweeps_as : (p budget : ℕ) (xs left : List (ℕ × Item)) (n : ℕ) (log : List (Event × Item)) → Sweeps P p budget xs left n log → Sweeps Q p budget xs left n log
  sweeps_as p zero xs left n log h = h
  sweeps_as p (suc budget) [] left n log h = h
  sweeps_as p (suc budget) (y ∷ ys) left n log h = (h.0, h.1, h.2, ends_as y.1.content h.0 h.3, h.4, h.5, sweeps_as p budget (ys ++ h.0) left h.1 h.2 h.6)

  pub swept_as : (p from budget : ℕ) (old new : List (ℕ × Item)) (n : ℕ) (log : List (Event × Item)) → IsSwept P p from budget old new n log → IsSwept Q p from budget old new n log
  swept_as p from budget old new n log h = (h.0, sweeps_as p budget (drop from old) h.0 n log h.1, h.2)
