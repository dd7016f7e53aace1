-- Lists of numbers, and lists with keys.
use Rattle.xh_records.proofs.Common.{length-append, nat_tests, ◌≡◌, ℕ, zero, suc, ◌+◌, ◌-◌, ◌<◌, ◌≤◌, ◌≢◌, Bool, true, false, List, [], ◌∷◌, ◌++◌, length, set, get_or, eqb, append_assoc, append-nil}
use Rattle.xh_records.proofs.Common.{get_or-set_same, get_or-set_other, sym, refl, ap, ◌∙◌, subst, ◌⊎◌, inl, inr, ⊎_elim, arith, ne_eqb, cond, Option, Some, None, remove, AllByRecursion, list_any}
use Rattle.xh_records.proofs.Common.{some, dite, ℕ_discrete, get_elem?, rest, Among, Distinct, keys, put, without, distinct_split, here_first, keys_append, length-keys, not_here, put_split}
use Rattle.xh_records.proofs.Common.{split_at_key, without_split, owned_by, AllBelow, IsListed, IsTurned, turns, in_slot, slot_at, or_else}
use Rattle.std.specs.List.{IsDistinct}
use Rattle.std.proofs.lemmas.Map.Steps.{length-le_from_distinct_below}

pub apart_all : (xs : List ℕ) (x : ℕ) → (Among xs x → ⊥) → AllByRecursion (λ y. eqb x y ≡ false) xs
apart_all [] x n = tt
apart_all (y ∷ ys) x n = (ne_eqb x y (λ e. n (inl e)), apart_all ys x (λ h. n (inr h)))

pub is_distinct : (xs : List ℕ) → Distinct xs → IsDistinct eqb xs
unfolding IsDistinct
is_distinct [] d = tt
is_distinct (x ∷ xs) d = (apart_all xs x d.0, is_distinct xs d.1)

pub any_below : (n : ℕ) (xs : List ℕ) (q : ℕ) → AllBelow n xs → list_any (eqb q) xs ≡ true → q < n
any_below n [] q b = λ e. absurd (cc)
any_below n (x ∷ xs) q b = grind (arith, nat_tests, any_below n xs q b.1)

pub few : (n : ℕ) (xs : List ℕ) → AllBelow n xs → Distinct xs → length xs ≤ n
few n xs b d = length-le_from_distinct_below xs n (is_distinct xs d) (λ q e. any_below n xs q b e)

pub below_push : (n : ℕ) (xs : List ℕ) (i : ℕ) → AllBelow n xs → i < n → AllBelow n (xs ++ i ∷ [])
below_push n [] i b h = (h, tt)
below_push n (x ∷ xs) i b h = (b.0, below_push n xs i b.1 h)

pub owned_push : (p : ℕ) (xs : List ℕ) (i : ℕ) → owned_by p (xs ++ i ∷ []) ≡ owned_by p xs ++ (i, p) ∷ []
owned_push p [] i = refl
owned_push p (y ∷ ys) i = ap (λ (l : List (ℕ × ℕ)). (y, p) ∷ l) (owned_push p ys i)

pub among_owned : (p : ℕ) (xs : List ℕ) (i : ℕ) → Among xs i → Among (owned_by p xs) (i, p)
among_owned p [] i h = absurd h
among_owned p (x ∷ xs) i h = ⊎_elim (λ (e : i ≡ x). inl (ap (λ (z : ℕ). (z, p)) e)) (λ (t : Among xs i). inr (among_owned p xs i t)) h

pub among_owned_back : (q : ℕ) (xs : List ℕ) (r p : ℕ) → Among (owned_by q xs) (r, p) → Among xs r
among_owned_back q [] r p h = absurd h
among_owned_back q (x ∷ xs) r p h = grind (arith, nat_tests, among_owned_back q xs r p)

-- so many turns bring the back to the front
pub turns_over : {X : Type 0} (a b : List (ℕ × X)) → turns (length a) (a ++ b) ≡ b ++ a
turns_over [] b = sym (append-nil b)
turns_over {X} (y ∷ ys) b = ap (λ (l : List (ℕ × X)). turns (length ys) l) (append_assoc ys b (y ∷ [])) ∙ turns_over ys (b ++ y ∷ []) ∙ append_assoc b (y ∷ []) ys

pub slot_split : {L : Type 0} (i : ℕ) (x : Option L) (a b : List (ℕ × Option L)) → (Among (keys a) i → ⊥) → in_slot i (a ++ (i, x) ∷ b) ≡ x
slot_split i x [] b n = here_first i i _ _ refl
slot_split i x (z ∷ zs) b n = not_here z.0 i _ _ (λ e. n (inl (sym e))) ∙ slot_split i x zs b (λ h. n (inr h))

pub below_split : (n : ℕ) (a : List ℕ) (i : ℕ) (b : List ℕ) → AllBelow n (a ++ i ∷ b) → AllBelow n (a ++ b)
below_split n [] i b h = h.1
below_split n (y ∷ ys) i b h = (h.0, below_split n ys i b h.1)

pub owned_without : (p i : ℕ) (a b : List ℕ) → (Among a i → ⊥) → (Among b i → ⊥) → without i (owned_by p (a ++ i ∷ b)) ≡ owned_by p (a ++ b)
owned_without p i [] [] n m = here_first i i _ _ refl
owned_without p i [] (y ∷ ys) n m = here_first i i _ _ refl ∙ (not_here y i _ _ (λ e. m (inl (sym e)))
    ∙ ap (λ (l : List (ℕ × ℕ)). (y, p) ∷ l) (sym (here_first i i _ _ refl) ∙ owned_without p i [] ys n (λ h. m (inr h))))
owned_without p i (y ∷ ys) b n m = not_here y i _ _ (λ e. n (inl (sym e))) ∙ ap (λ (l : List (ℕ × ℕ)). (y, p) ∷ l) (owned_without p i ys b (λ h. n (inr h)) m)

pub remove_split : (a : List ℕ) (i : ℕ) (b : List ℕ) → remove (a ++ i ∷ b) (length a) ≡ a ++ b
remove_split [] i b = refl
remove_split (y ∷ ys) i b = ap (λ (l : List ℕ). y ∷ l) (remove_split ys i b)

pub below_at : (n : ℕ) (a : List ℕ) (i : ℕ) (b : List ℕ) → AllBelow n (a ++ i ∷ b) → i < n
below_at n [] i b h = h.0
below_at n (y ∷ ys) i b h = below_at n ys i b h.1

pub stands : {L : Type 0} (l : List (ℕ × Option L)) (i : ℕ) (x : L) → in_slot i l ≡ Some x → (k : ℕ) × (get_elem? (keys l) k ≡ some i)
stands [] i x = λ e. absurd (cc)
stands {L} (y ∷ ys) i x = dite (ℕ_discrete y.0 i)
    (λ same e. (0, ap some same))
    (λ other. subst (λ (b : Bool). cond b y.1 (in_slot i ys) ≡ Some x → (k : ℕ) × (get_elem? (keys (y ∷ ys)) k ≡ some i)) (sym (ne_eqb y.0 i other)) (λ e. let t = stands ys i x e in (suc t.0, t.1)))

pub first_is : {X : Type 0} (i : ℕ) (x y : X) (l xs ys : List (ℕ × X)) → l ≡ (i, x) ∷ xs → l ≡ (i, y) ∷ ys → x ≡ y
first_is i x y l xs ys p q = let e : (i, x) ∷ xs ≡ (i, y) ∷ ys = sym p ∙ q in let f : (i, x) ≡ (i, y) = cc in ap (λ (z : ℕ × _). z.1) f

-- a seat's slots, taken out one by one
pub next_slot : {X : Type 0} (front back : List (ℕ × X)) (slot : ℕ) → length front < length (keys (front ++ back)) → slot ≡ get_or (keys (front ++ back)) (length front) 0
    → (x : X) × (more : List (ℕ × X)) × (back ≡ (slot, x) ∷ more)
next_slot [] [] slot h e = absurd (omega arith)
next_slot [] (y ∷ ys) slot h e = (y.1, ys, ap (λ (n : ℕ). (n, y.1) ∷ ys) (sym e))
next_slot (z ∷ zs) back slot h e = next_slot zs back slot (omega arith) e

pub slot_front : {L : Type 0} (r slot : ℕ) (x : Option L) (front : List (ℕ × Option L)) → r ≢ slot → in_slot r (front ++ (slot, x) ∷ []) ≡ in_slot r front
slot_front r slot x [] n = not_here slot r _ _ (λ e. n (sym e))
slot_front r slot x (y ∷ ys) n = ap (λ z. cond (eqb y.0 r) y.1 z) (slot_front r slot x ys n)

pub fills : {L : Type 0} (front : List (ℕ × Option L)) (slot : ℕ) (x result : Option L) (l : L) (held held0 : List (Option L)) (n : ℕ) → (Among (keys front) slot → ⊥) → x ≡ Some l → result ≡ x
    → slot < length held
    → ((r : ℕ) → r < n → slot_at held r ≡ or_else (in_slot r front) (slot_at held0 r)) → (r : ℕ) → r < n
    → slot_at (set held slot result) r ≡ or_else (in_slot r (front ++ (slot, x) ∷ [])) (slot_at held0 r)
fills {L} front slot x result l held held0 n fresh is_some is_x inside before r below = grind (arith, nat_tests, get_or-set_same, slot_split, get_or-set_other, slot_front)

pub all_front : {X : Type 0} (front back : List (ℕ × X)) → length (keys (front ++ back)) ≤ length front → front ≡ front ++ back
all_front [] [] h = refl
all_front [] (y ∷ ys) h = absurd (omega arith)
all_front {X} (z ∷ zs) back h = ap (λ (l : List (ℕ × X)). z ∷ l) (all_front zs back (omega arith))

pub none_or_some : {L : Type 0} (o : Option L) → (o ≡ None) ⊎ ((l : L) × (o ≡ Some l))
none_or_some None = inl refl
none_or_some (Some l) = inr (l, refl)

-- a list turned until a key is first, and turned back
turned_at : {L : Type 0} (l now : List (ℕ × Option L)) (k slot : ℕ) → Distinct (keys l) → get_elem? (keys l) k ≡ some slot → now ≡ turns k l → IsTurned slot l now (length (keys l) - k)
turned_at {L} l now k slot distinct at is =
    let t = split_at_key l k slot at in
    let a = t.0 in let x = t.1 in let b = t.2 in
    let order : keys l ≡ keys a ++ slot ∷ keys b = ap keys t.3 ∙ keys_append a ((slot, x) ∷ b) in
    let d = distinct_split (keys a) slot (keys b) (subst Distinct order distinct) in
    let behind : length (keys l) - k ≡ suc (length b) = (let e = ap length order ∙ length-append (keys a) (slot ∷ keys b) in let f = length-keys a in let g = length-keys b in
    let n : length a ≡ k = t.4 in omega arith) in
    let less : length (keys l) - k - 1 ≡ length b = omega arith in
    let first : now ≡ (slot, x) ∷ (b ++ a) = is ∙ ap (turns k) t.3 ∙ ap (λ (n : ℕ). turns n (a ++ (slot, x) ∷ b)) (sym t.4) ∙ turns_over a ((slot, x) ∷ b) in
    let value : in_slot slot l ≡ x = ap (in_slot slot) t.3 ∙ slot_split slot x a b d.0 in record {
      first = first ∙ (λ i. (slot, sym value i) ∷ rest (sym first i));
      again = λ y. (λ i. turns (behind i) ((slot, y) ∷ rest (first i))) ∙ turns_over ((slot, y) ∷ b) a ∙ sym (ap (put slot y) t.3 ∙ put_split slot x y a b d.0);
      gone = (λ i. turns (less i) (rest (first i))) ∙ turns_over b a ∙ sym (ap (without slot) t.3 ∙ without_split slot x a b d.0 d.1);
    }

-- the same of a token's list, by the order of its slots
pub turned_by : {L : Type 0} (order : List ℕ) (l now : List (ℕ × Option L)) (k slot : ℕ) → IsListed order l slot → get_elem? order k ≡ some slot
    → now ≡ turns k l → IsTurned slot l now (length order - k)
turned_by order l now k slot listed at is =
    let same = listed.0 in
    subst (λ z. IsTurned slot l now (length z - k)) (sym same) (turned_at l now k slot (subst Distinct same listed.1) (subst (λ z. get_elem? z k ≡ some slot) same at) is)

pub slot_other : {L : Type 0} (i j : ℕ) (y : Option L) (l : List (ℕ × Option L)) → i ≢ j → in_slot j (put i y l) ≡ in_slot j l
slot_other i j y [] ne = refl
slot_other i j y (w ∷ ws) ne = grind (arith, nat_tests, slot_other i j y ws ne)

-- one more of what was seen
pub seen_more : (P : ℕ → ℕ → Type 0) (xs : List ℕ) (x : ℕ) → ((k : ℕ) → k < length xs → P k (get_or xs k 0)) → P (length xs) x → (k : ℕ) → k < length xs + 1 → P k (get_or (xs ++ x ∷ []) k 0)
seen_more P [] x h p zero l = p
seen_more P [] x h p (suc k) l = absurd (omega arith)
seen_more P (y ∷ ys) x h p zero l = h zero (omega arith)
seen_more P (y ∷ ys) x h p (suc k) l = seen_more (λ j. P (suc j)) ys x (λ j m. h (suc j) (omega arith)) p k (omega arith)
