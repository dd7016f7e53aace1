-- Lists of values beside their keys.
use Rattle.std.proofs.Common.{◌≡◌, ◌≢◌, ℕ, zero, suc, ◌<◌, ◌≤◌, ◌⊎◌, ⊎_elim, inl, inr, Bool, List, [], ◌∷◌, ◌++◌, length, cond, get_or, drop}
use Rattle.std.proofs.Common.{refl, sym, ap, ◌∙◌, subst, arith, eqb, ne_eqb, eq-eqb, drop-cons}
use Rattle.std.specs.Prelude.{Option, Some, None}
use Rattle.std.proofs.lemmas.Bool.Decides.{nat_tests}
use Rattle.std.proofs.lemmas.List.{at_drop_all}
use mathlib.Core.Option.{some, some-injective, some-ne-none}
use mathlib.Core.Logic.{dite}
use native.Mathlib.Decide.{ℕ_discrete}
use lib.ListN.{get_elem?}
use Rattle.xh_model.specs.Keyed.{Among, Distinct, keys, value_at, put, without}

-- what stands in a list
pub among_front : {A : Type 0} (xs ys : List A) (x : A) → Among xs x → Among (xs ++ ys) x
among_front [] ys x h = absurd h
among_front (y ∷ xs) ys x h = grind (arith, among_front xs ys x)

pub among_back : {A : Type 0} (xs ys : List A) (x : A) → Among ys x → Among (xs ++ ys) x
among_back [] ys x h = h
among_back (y ∷ xs) ys x h = inr (among_back xs ys x h)

pub among_either : {A : Type 0} (xs ys : List A) (x : A) → Among (xs ++ ys) x → Among xs x ⊎ Among ys x
among_either [] ys x h = inr h
among_either (y ∷ xs) ys x h = grind (arith, among_either xs ys x)

pub dec_among : (l : List ℕ) (p : ℕ) → Dec (Among l p)
dec_among [] p = no (λ h. h)
dec_among (x ∷ xs) p = dite (ℕ_discrete p x) (λ e. yes (inl e))
    (λ n. dite (dec_among xs p) (λ h. yes (inr h)) (λ m. no (λ h. ⊎_elim (λ (e : p ≡ x). n e) (λ (t : Among xs p). m t) h)))

pub distinct_push : (xs : List ℕ) (i : ℕ) → Distinct xs → (Among xs i → ⊥) → Distinct (xs ++ i ∷ [])
distinct_push [] i d n = ((λ h. absurd h), tt)
distinct_push (x ∷ xs) i d n = ((λ h. grind (arith, n, d.0, among_either xs (i ∷ []) x h)), distinct_push xs i d.1 (λ h. n (inr h)))

pub distinct_split : (a : List ℕ) (i : ℕ) (b : List ℕ) → Distinct (a ++ i ∷ b) → (Among a i → ⊥) × (Among b i → ⊥) × Distinct (a ++ b)
distinct_split [] i b d = ((λ h. h), d.0, d.1)
distinct_split (y ∷ ys) i b d = let t = distinct_split ys i b d.1 in (
  (λ h. grind (arith, d.0, t.0, among_back ys (i ∷ b) y)),
  t.1,
  ((λ h. grind (arith, d.0, among_front ys (i ∷ b) y, among_back ys (i ∷ b) y, among_either ys b y)), t.2),
)

-- whether a key is the one that is looked for
pub here_first : {Y : Type 0} (n r : ℕ) (yes_ no_ : Y) → n ≡ r → cond (eqb n r) yes_ no_ ≡ yes_
here_first n r y z e = ap (λ (b : Bool). cond b y z) (eq-eqb n r e)

pub not_here : {Y : Type 0} (n r : ℕ) (yes_ no_ : Y) → n ≢ r → cond (eqb n r) yes_ no_ ≡ no_
not_here n r y z e = ap (λ (b : Bool). cond b y z) (ne_eqb n r e)

module _ {X : Type 0} (r : ℕ) (x : ℕ × X) (xs : List (ℕ × X)) where
  pub value_here : x.0 ≡ r → value_at r (x ∷ xs) ≡ Some x.1
  value_here e = here_first x.0 r (Some x.1) (value_at r xs) e

  pub value_there : x.0 ≢ r → value_at r (x ∷ xs) ≡ value_at r xs
  value_there n = not_here x.0 r (Some x.1) (value_at r xs) n

  pub without_here : x.0 ≡ r → without r (x ∷ xs) ≡ without r xs
  without_here e = here_first x.0 r (without r xs) (x ∷ without r xs) e

  pub without_there : x.0 ≢ r → without r (x ∷ xs) ≡ x ∷ without r xs
  without_there n = not_here x.0 r (without r xs) (x ∷ without r xs) n

pub put_here : {X : Type 0} (r : ℕ) (y : X) (x : ℕ × X) (xs : List (ℕ × X)) → x.0 ≡ r → put r y (x ∷ xs) ≡ (r, y) ∷ xs
put_here r y x xs e = here_first x.0 r ((r, y) ∷ xs) (x ∷ put r y xs) e

pub put_there : {X : Type 0} (r : ℕ) (y : X) (x : ℕ × X) (xs : List (ℕ × X)) → x.0 ≢ r → put r y (x ∷ xs) ≡ x ∷ put r y xs
put_there r y x xs n = not_here x.0 r ((r, y) ∷ xs) (x ∷ put r y xs) n

-- keys
pub keys_append : {X : Type 0} (a b : List (ℕ × X)) → keys (a ++ b) ≡ keys a ++ keys b
keys_append [] b = refl
keys_append (y ∷ ys) b = ap (λ (l : List ℕ). y.0 ∷ l) (keys_append ys b)

pub keys_push : {X : Type 0} (xs : List (ℕ × X)) (x : ℕ × X) → keys (xs ++ x ∷ []) ≡ keys xs ++ x.0 ∷ []
keys_push xs x = keys_append xs (x ∷ [])

pub length-keys : {X : Type 0} (a : List (ℕ × X)) → length (keys a) ≡ length a
length-keys [] = refl
length-keys (y ∷ ys) = ap suc (length-keys ys)

pub get_key : {X : Type 0} (k : ℕ) (xs : List (ℕ × X)) (d : ℕ × X) → k < length xs → Among (keys xs) (get_or xs k d).0
get_key k [] d h = absurd (omega arith)
get_key zero (x ∷ xs) d h = inl refl
get_key (suc k) (x ∷ xs) d h = inr (get_key k xs d (omega arith))

-- a list about one of its keys
pub split_at_key : {X : Type 0} (l : List (ℕ × X)) (k i : ℕ) → get_elem? (keys l) k ≡ some i
    → (a : List (ℕ × X)) × (x : X) × (b : List (ℕ × X)) × (l ≡ a ++ (i, x) ∷ b) × (length a ≡ k)
split_at_key [] k i e = absurd (some-ne-none i (sym e))
split_at_key (y ∷ ys) zero i e = ([], y.1, ys, ap (λ (z : ℕ). (z, y.1) ∷ ys) (some-injective y.0 i e), refl)
split_at_key {X} (y ∷ ys) (suc k) i e = let t = split_at_key ys k i e in (y ∷ t.0, t.1, t.2, ap (λ (l : List (ℕ × X)). y ∷ l) t.3, ap suc t.4)

module _ {X : Type 0} where
  -- a key is in the list exactly where a value is beside it
  pub at_key : (r : ℕ) (y : X) (xs : List (ℕ × X)) → value_at r xs ≡ Some y → Among (keys xs) r
  at_key r y [] = λ e. absurd (cc)
  at_key r y (x ∷ xs) = λ e. grind (arith, nat_tests, at_key r y xs)

  pub no_key : (r : ℕ) (xs : List (ℕ × X)) → value_at r xs ≡ None → Among (keys xs) r → ⊥
  no_key r [] = λ e h. h
  no_key r (x ∷ xs) = λ e h. grind (arith, nat_tests, no_key r xs)

  pub none_at : (r : ℕ) (xs : List (ℕ × X)) → (Among (keys xs) r → ⊥) → value_at r xs ≡ None
  none_at r [] n = refl
  none_at r (x ∷ xs) n = value_there r x xs (λ e. n (inl (sym e))) ∙ none_at r xs (λ h. n (inr h))

  pub front_at : (r : ℕ) (y : X) (xs ys : List (ℕ × X)) → value_at r xs ≡ Some y → value_at r (xs ++ ys) ≡ Some y
  front_at r y [] ys = λ e. absurd (cc)
  front_at r y (x ∷ xs) ys = λ e. grind (arith, nat_tests, front_at r y xs ys)

  -- one more at the end
  pub last_at : (r : ℕ) (y : X) (xs : List (ℕ × X)) → (Among (keys xs) r → ⊥) → value_at r (xs ++ (r, y) ∷ []) ≡ Some y
  last_at r y [] n = value_here r (r, y) [] refl
  last_at r y (x ∷ xs) n = value_there r x (xs ++ (r, y) ∷ []) (λ e. n (inl (sym e))) ∙ last_at r y xs (λ h. n (inr h))

  pub last_other : (q r : ℕ) (y : X) (xs : List (ℕ × X)) → r ≢ q → value_at q (xs ++ (r, y) ∷ []) ≡ value_at q xs
  last_other q r y [] n = value_there q (r, y) [] n
  last_other q r y (x ∷ xs) n = ap (λ (z : Option X). cond (eqb x.0 q) (Some x.1) z) (last_other q r y xs n)

  pub last_put : (r : ℕ) (y z : X) (xs : List (ℕ × X)) → (Among (keys xs) r → ⊥) → put r z (xs ++ (r, y) ∷ []) ≡ xs ++ (r, z) ∷ []
  last_put r y z [] n = put_here r z (r, y) [] refl
  last_put r y z (x ∷ xs) n = put_there r z x (xs ++ (r, y) ∷ []) (λ e. n (inl (sym e))) ∙ ap (λ (l : List (ℕ × X)). x ∷ l) (last_put r y z xs (λ h. n (inr h)))

  pub last_without : (r : ℕ) (y : X) (xs : List (ℕ × X)) → (Among (keys xs) r → ⊥) → without r (xs ++ (r, y) ∷ []) ≡ xs
  last_without r y [] n = without_here r (r, y) [] refl
  last_without r y (x ∷ xs) n = without_there r x (xs ++ (r, y) ∷ []) (λ e. n (inl (sym e))) ∙ ap (λ (l : List (ℕ × X)). x ∷ l) (last_without r y xs (λ h. n (inr h)))

  -- one less
  pub absent : (r : ℕ) (xs : List (ℕ × X)) → (Among (keys xs) r → ⊥) → without r xs ≡ xs
  absent r [] n = refl
  absent r (x ∷ xs) n = without_there r x xs (λ e. n (inl (sym e))) ∙ ap (λ (l : List (ℕ × X)). x ∷ l) (absent r xs (λ h. n (inr h)))

  pub without_split : (r : ℕ) (y : X) (a b : List (ℕ × X)) → (Among (keys a) r → ⊥) → (Among (keys b) r → ⊥) → without r (a ++ (r, y) ∷ b) ≡ a ++ b
  without_split r y [] b n m = without_here r (r, y) b refl ∙ absent r b m
  without_split r y (x ∷ xs) b n m = without_there r x (xs ++ (r, y) ∷ b) (λ e. n (inl (sym e))) ∙ ap (λ (l : List (ℕ × X)). x ∷ l) (without_split r y xs b (λ h. n (inr h)) m)

  pub without_at : (r : ℕ) (xs : List (ℕ × X)) → value_at r (without r xs) ≡ None
  without_at r [] = refl
  without_at r (x ∷ xs) = grind (arith, nat_tests, without_at r xs)

  pub without_other : (q r : ℕ) (xs : List (ℕ × X)) → r ≢ q → value_at q (without r xs) ≡ value_at q xs
  without_other q r [] n = refl
  without_other q r (x ∷ xs) n = grind (arith, nat_tests, without_other q r xs n)

  pub without_key : (q r : ℕ) (xs : List (ℕ × X)) → Among (keys (without r xs)) q → Among (keys xs) q
  without_key q r [] = λ h. h
  without_key q r (x ∷ xs) = λ h. grind (arith, nat_tests, without_key q r xs)

  pub distinct_without : (r : ℕ) (xs : List (ℕ × X)) → Distinct (keys xs) → Distinct (keys (without r xs))
  distinct_without r [] d = tt
  distinct_without r (x ∷ xs) d = dite (ℕ_discrete x.0 r)
      (λ same. subst (λ (l : List (ℕ × X)). Distinct (keys l)) (sym (without_here r x xs same)) (distinct_without r xs d.1))
      (λ other. subst (λ (l : List (ℕ × X)). Distinct (keys l)) (sym (without_there r x xs other)) ((λ h. d.0 (without_key x.0 r xs h)), distinct_without r xs d.1))

  -- another in its place
  pub put_keys : (r : ℕ) (y : X) (xs : List (ℕ × X)) → keys (put r y xs) ≡ keys xs
  put_keys r y [] = refl
  put_keys r y (x ∷ xs) = grind (arith, nat_tests, put_keys r y xs)

  pub put_split : (r : ℕ) (x y : X) (a b : List (ℕ × X)) → (Among (keys a) r → ⊥) → put r y (a ++ (r, x) ∷ b) ≡ a ++ (r, y) ∷ b
  put_split r x y [] b n = put_here r y (r, x) b refl
  put_split r x y (z ∷ zs) b n = put_there r y z (zs ++ (r, x) ∷ b) (λ e. n (inl (sym e))) ∙ ap (λ (l : List (ℕ × X)). z ∷ l) (put_split r x y zs b (λ h. n (inr h)))

  pub put_at : (r : ℕ) (y z : X) (xs : List (ℕ × X)) → value_at r xs ≡ Some z → value_at r (put r y xs) ≡ Some y
  put_at r y z [] = λ e. absurd (cc)
  put_at r y z (x ∷ xs) = λ e. grind (arith, nat_tests, put_at r y z xs)

  pub put_other : (q r : ℕ) (y : X) (xs : List (ℕ × X)) → r ≢ q → value_at q (put r y xs) ≡ value_at q xs
  put_other q r y [] n = refl
  put_other q r y (x ∷ xs) n = grind (arith, nat_tests, put_other q r y xs n)

  pub put_same : (r : ℕ) (y : X) (xs : List (ℕ × X)) → value_at r xs ≡ Some y → put r y xs ≡ xs
  put_same r y [] = λ e. refl
  put_same r y (x ∷ xs) = λ e. grind (arith, nat_tests, put_same r y xs)

  pub put_without : (r : ℕ) (y : X) (xs : List (ℕ × X)) → without r (put r y xs) ≡ without r xs
  put_without r y [] = refl
  put_without r y (x ∷ xs) = grind (arith, nat_tests, put_without r y xs)

  -- others in two places
  pub put_twice : (r : ℕ) (y z : X) (xs : List (ℕ × X)) → put r y (put r z xs) ≡ put r y xs
  put_twice r y z [] = refl
  put_twice r y z (x ∷ xs) = grind (arith, nat_tests, put_twice r y z xs)

  pub put_swap : (i j : ℕ) (y z : X) (xs : List (ℕ × X)) → i ≢ j → put i y (put j z xs) ≡ put j z (put i y xs)
  put_swap i j y z [] ne = refl
  put_swap i j y z (x ∷ xs) ne = grind (arith, nat_tests, put_swap i j y z xs ne)

-- a list cut at a place
pub next : {X : Type 0} (k : ℕ) (xs : List X) (d : X) → k < length xs → drop k xs ≡ get_or xs k d ∷ drop (suc k) xs
next k xs d h = drop-cons xs k d h

pub past : {X : Type 0} (k : ℕ) (xs : List X) → length xs ≤ k → drop k xs ≡ []
past k xs h = at_drop_all (λ ys. ys) xs k h
