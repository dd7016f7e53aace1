-- Lists of numbers, and the sums of the lengths of their lots.
use Rattle.xh_place.proofs.Words.{◌≡◌, ◌≢◌, ℕ, zero, suc, ◌+◌, ◌*◌, ◌<◌, ◌≤◌, ◌==◌, List, [], ◌∷◌, ◌++◌, length, refl, sym, ap, ◌∙◌, subst, arith, nat_tests, inl, inr, ⊎_elim, dite, ℕ_discrete}
use Rattle.xh_place.proofs.Words.{Some, None, Among, Distinct, keys, put, value_at, without, here_first, not_here, get_or, remove, Bool, false, LotOf, Body, len_at, lens, less, less_all, cond}
use Rattle.xh_place.proofs.Words.{true, Option}

pub unequal : (n r : ℕ) → n ≢ r → (n == r) ≡ false
unequal n r o = grind (arith, nat_tests)

pub among_get : (k : ℕ) (xs : List ℕ) (d : ℕ) → k < length xs → Among xs (get_or xs k d)
among_get k [] d h = absurd (omega arith)
among_get zero (x ∷ xs) d h = inl refl
among_get (suc k) (x ∷ xs) d h = inr (among_get k xs d (omega arith))

pub keys_without : {X : Type 0} (r : ℕ) (xs : List (ℕ × X)) → keys (without r xs) ≡ less r (keys xs)
keys_without r [] = refl
keys_without r (x ∷ xs) = grind (arith, nat_tests, keys_without r xs)

-- a list of numbers that lost one
pub less_absent : (r : ℕ) (xs : List ℕ) → (Among xs r → ⊥) → less r xs ≡ xs
less_absent r [] n = refl
less_absent r (x ∷ xs) n = let m : x ≢ r = λ e. n (inl (sym e)) in grind (arith, nat_tests, less_absent r xs (λ a. n (inr a)))

pub removed_number : (r k : ℕ) (xs : List ℕ) (d : ℕ) → Distinct xs → k < length xs → get_or xs k d ≡ r → remove xs k ≡ less r xs
removed_number r k [] d once h e = absurd (omega arith)
removed_number r zero (x ∷ xs) d once h e = grind (arith, nat_tests, less_absent r xs (λ a. once.0 (subst (λ (z : ℕ). Among xs z) (sym e) a)))
removed_number r (suc k) (x ∷ xs) d once h e =
    let m : x ≢ r = λ q. once.0 (subst (λ (z : ℕ). Among xs z) (e ∙ sym q) (among_get k xs d (omega arith))) in grind (arith, nat_tests, removed_number r k xs d once.1 (omega arith) e)

-- another number stays, and the one is gone
pub less_was : (r q : ℕ) (xs : List ℕ) → Among (less r xs) q → Among xs q × (r ≢ q)
less_was r q [] a = absurd a
less_was r q (x ∷ xs) a = dite (ℕ_discrete x r)
    (λ e. let t = less_was r q xs (subst (λ (l : List ℕ). Among l q) (here_first x r (less r xs) (x ∷ less r xs) e) a) in (inr t.0, t.1))
    (λ n. ⊎_elim (λ s. (inl s, λ e. n (sym s ∙ sym e))) (λ b. let t = less_was r q xs b in (inr t.0, t.1)) (subst (λ (l : List ℕ). Among l q) (not_here x r (less r xs) (x ∷ less r xs) n) a))

pub less_stays : (r q : ℕ) (xs : List ℕ) → r ≢ q → Among xs q → Among (less r xs) q
less_stays r q [] n a = a
less_stays r q (x ∷ xs) n a = dite (ℕ_discrete x r)
    (λ e. subst (λ (l : List ℕ). Among l q) (sym (here_first x r (less r xs) (x ∷ less r xs) e)) (⊎_elim (λ s. absurd (n (sym e ∙ sym s))) (λ b. less_stays r q xs n b) a))
    (λ m. subst (λ (l : List ℕ). Among l q) (sym (not_here x r (less r xs) (x ∷ less r xs) m)) (⊎_elim (λ s. inl s) (λ b. inr (less_stays r q xs n b)) a))

pub less_long : (r : ℕ) (xs : List ℕ) → Distinct xs → Among xs r → length xs ≡ suc (length (less r xs))
less_long r [] d a = absurd a
less_long r (x ∷ xs) d a = dite (ℕ_discrete x r)
    (λ e. ap suc (ap length (sym (here_first x r (less r xs) (x ∷ less r xs) e ∙ less_absent r xs (λ b. d.0 (subst (λ (z : ℕ). Among xs z) (sym e) b))))))
    (λ n. ap suc (less_long r xs d.1 (⊎_elim (λ e. absurd (n (sym e))) (λ b. b) a) ∙ ap length (sym (not_here x r (less r xs) (x ∷ less r xs) n))))

pub distinct_less : (r : ℕ) (xs : List ℕ) → Distinct xs → Distinct (less r xs)
distinct_less r [] d = tt
distinct_less r (x ∷ xs) d = dite (ℕ_discrete x r)
    (λ e. subst Distinct (sym (here_first x r (less r xs) (x ∷ less r xs) e)) (distinct_less r xs d.1))
    (λ n. subst Distinct (sym (not_here x r (less r xs) (x ∷ less r xs) n)) ((λ a. d.0 (less_was r x xs a).0), distinct_less r xs d.1))

-- ---- sums

pub lens_same : (rs : List ℕ) (f g : ℕ → Option (LotOf Body)) → ((r : ℕ) → Among rs r → len_at (f r) ≡ len_at (g r)) → lens rs f ≡ lens rs g
lens_same [] f g h = refl
lens_same (r ∷ rs) f g h = (λ i. h r (inl refl) i + lens_same rs f g (λ q a. h q (inr a)) i)

pub lens_last : (rs : List ℕ) (r : ℕ) (f : ℕ → Option (LotOf Body)) → lens (rs ++ r ∷ []) f ≡ lens rs f + len_at (f r)
lens_last [] r f = omega arith
lens_last (x ∷ xs) r f = omega (arith, lens_last xs r f)

pub lens_less : (r : ℕ) (xs : List ℕ) (f : ℕ → Option (LotOf Body)) → Distinct xs → Among xs r → lens (less r xs) f + len_at (f r) ≡ lens xs f
lens_less r [] f d a = absurd a
lens_less r (x ∷ xs) f d a = dite (ℕ_discrete x r)
    (λ e. let same : less r xs ≡ xs = less_absent r xs (λ b. d.0 (subst (λ (z : ℕ). Among xs z) (sym e) b)) in
    let all : lens (less r (x ∷ xs)) f ≡ lens xs f = ap (λ (l : List ℕ). lens l f) (here_first x r (less r xs) (x ∷ less r xs) e ∙ same) in
    let one : len_at (f x) ≡ len_at (f r) = ap (λ (q : ℕ). len_at (f q)) e in omega (arith, all, one))
    (λ n. let rest = lens_less r xs f d.1 (⊎_elim (λ e. absurd (n (sym e))) (λ b. b) a) in
    let all : lens (less r (x ∷ xs)) f ≡ len_at (f x) + lens (less r xs) f = ap (λ (l : List ℕ). lens l f) (not_here x r (less r xs) (x ∷ less r xs) n) in omega (arith, all, rest))

-- two ways that differ at one record
pub lens_at : (rs : List ℕ) (r : ℕ) (f g : ℕ → Option (LotOf Body)) → Distinct rs → Among rs r → ((q : ℕ) → r ≢ q → g q ≡ f q) → lens rs g + len_at (f r) ≡ lens rs f + len_at (g r)
lens_at rs r f g d a same =
    let rest : lens (less r rs) g ≡ lens (less r rs) f = lens_same (less r rs) g f (λ q b. ap len_at (same q (less_was r q rs b).1)) in
    omega (arith, rest, lens_less r rs f d a, lens_less r rs g d a)

pub lens_small : (rs : List ℕ) (f : ℕ → Option (LotOf Body)) → ((r : ℕ) → Among rs r → len_at (f r) ≤ 134217728) → lens rs f ≤ length rs * 134217728
lens_small [] f h = omega arith
lens_small (r ∷ rs) f h = let head : len_at (f r) ≤ 134217728 = h r (inl refl) in let rest = lens_small rs f (λ q a. h q (inr a)) in omega (arith, head, rest)

pub lens_most : (r : ℕ) (xs : List ℕ) (f : ℕ → Option (LotOf Body)) → Among xs r → len_at (f r) ≤ lens xs f
lens_most r [] f a = absurd a
lens_most r (x ∷ xs) f a = ⊎_elim
    (λ e. let one : len_at (f r) ≡ len_at (f x) = ap (λ (q : ℕ). len_at (f q)) e in omega (arith, one))
    (λ b. omega (arith, lens_most r xs f b)) a

-- what stands at a record of the first part is changed there
pub put_front : {X : Type 0} (r : ℕ) (y z : X) (xs ys : List (ℕ × X)) → value_at r xs ≡ Some z → put r y (xs ++ ys) ≡ put r y xs ++ ys
put_front r y z [] ys at = absurd (cc)
put_front r y z (x ∷ xs) ys at = grind (arith, nat_tests, put_front r y z xs ys)

-- ---- without those of some given numbers that do not stay

pub distinct_unless : (b : Bool) (r : ℕ) (xs : List ℕ) → Distinct xs → Distinct (cond b xs (less r xs))
distinct_unless true r xs d = d
distinct_unless false r xs d = distinct_less r xs d

unless_was : (b : Bool) (r q : ℕ) (xs : List ℕ) → Among (cond b xs (less r xs)) q → Among xs q × (r ≡ q → b ≡ true)
unless_was true r q xs a = (a, λ e. refl)
unless_was false r q xs a = let t = less_was r q xs a in (t.0, λ e. absurd (t.1 e))

unless_stays : (b : Bool) (r q : ℕ) (xs : List ℕ) → Among xs q → (r ≡ q → b ≡ true) → Among (cond b xs (less r xs)) q
unless_stays true r q xs a h = a
unless_stays false r q xs a h = less_stays r q xs (λ e. let f : false ≡ true = h e in absurd (cc)) a

lens_unless : (b : Bool) (r : ℕ) (xs : List ℕ) (f : ℕ → Option (LotOf Body)) → (b ≡ false → len_at (f r) ≡ 0) → lens (cond b xs (less r xs)) f ≡ lens xs f
lens_unless true r xs f h = refl
lens_unless false r [] f h = refl
lens_unless false r (x ∷ xs) f h = dite (ℕ_discrete x r)
    (λ e. let all : lens (less r (x ∷ xs)) f ≡ lens (less r xs) f = ap (λ (l : List ℕ). lens l f) (here_first x r (less r xs) (x ∷ less r xs) e) in
    let none : len_at (f x) ≡ 0 = ap (λ (q : ℕ). len_at (f q)) e ∙ h refl in omega (arith, all, none, lens_unless false r xs f h))
    (λ n. let all : lens (less r (x ∷ xs)) f ≡ len_at (f x) + lens (less r xs) f = ap (λ (l : List ℕ). lens l f) (not_here x r (less r xs) (x ∷ less r xs) n) in
    omega (arith, all, lens_unless false r xs f h))

pub all_was : (given : List ℕ) (stays : ℕ → Bool) (xs : List ℕ) (q : ℕ) → Among (less_all given stays xs) q → Among xs q × (Among given q → stays q ≡ true)
all_was [] stays xs q a = (a, λ z. absurd z)
all_was (r ∷ rs) stays xs q a =
    let t = all_was rs stays (cond (stays r) xs (less r xs)) q a in let u = unless_was (stays r) r q xs t.0 in (u.0, λ g. ⊎_elim (λ (e : q ≡ r). ap stays e ∙ u.1 (sym e)) t.1 g)

pub all_stays : (given : List ℕ) (stays : ℕ → Bool) (xs : List ℕ) (q : ℕ) → Among xs q → (Among given q → stays q ≡ true) → Among (less_all given stays xs) q
all_stays [] stays xs q a h = a
all_stays (r ∷ rs) stays xs q a h =
    all_stays rs stays (cond (stays r) xs (less r xs)) q (unless_stays (stays r) r q xs a (λ e. ap stays e ∙ h (inl (sym e)))) (λ g. h (inr g))

pub all_distinct : (given : List ℕ) (stays : ℕ → Bool) (xs : List ℕ) → Distinct xs → Distinct (less_all given stays xs)
all_distinct [] stays xs d = d
all_distinct (r ∷ rs) stays xs d = all_distinct rs stays (cond (stays r) xs (less r xs)) (distinct_unless (stays r) r xs d)

pub lens_dropped : (given : List ℕ) (stays : ℕ → Bool) (xs : List ℕ) (f : ℕ → Option (LotOf Body)) → ((r : ℕ) → Among given r → stays r ≡ false → len_at (f r) ≡ 0)
    → lens (less_all given stays xs) f ≡ lens xs f
lens_dropped [] stays xs f h = refl
lens_dropped (r ∷ rs) stays xs f h = lens_dropped rs stays (cond (stays r) xs (less r xs)) f (λ q a. h q (inr a)) ∙ lens_unless (stays r) r xs f (h r (inl refl))

pub lens_part : (given xs : List ℕ) (f : ℕ → Option (LotOf Body)) → Distinct given → Distinct xs → ((r : ℕ) → Among given r → Among xs r)
    → lens xs f ≡ lens given f + lens (less_all given (λ _. false) xs) f
lens_part [] xs f d once all = omega arith
lens_part (r ∷ rs) xs f d once all =
    let rest = lens_part rs (less r xs) f d.1 (distinct_less r xs once) (λ q a. less_stays r q xs (λ e. d.0 (subst (λ (z : ℕ). Among rs z) (sym e) a)) (all q (inr a))) in
    omega (arith, rest, lens_less r xs f once (all r (inl refl)))

pub lens_given : (given xs : List ℕ) (f g : ℕ → Option (LotOf Body)) → Distinct given → Distinct xs → ((r : ℕ) → Among given r → Among xs r)
    → ((q : ℕ) → (Among given q → ⊥) → len_at (g q) ≡ len_at (f q)) → lens xs g + lens given f ≡ lens xs f + lens given g
lens_given given xs f g d once all same =
    let others : List ℕ = less_all given (λ _. false) xs in
    let rest : lens others g ≡ lens others f = lens_same others g f (λ q a. same q (λ among. let no_one : false ≡ true = (all_was given (λ _. false) xs q a).1 among in absurd (cc))) in
    omega (arith, lens_part given xs f d once all, lens_part given xs g d once all, rest)

pub lens_none : (given : List ℕ) (f : ℕ → Option (LotOf Body)) → ((r : ℕ) → Among given r → f r ≡ None) → lens given f ≡ 0
lens_none [] f h = refl
lens_none (r ∷ rs) f h = omega (arith, ap len_at (h r (inl refl)), lens_none rs f (λ q a. h q (inr a)))

pub lens_one : (given : List ℕ) (r : ℕ) (f g : ℕ → Option (LotOf Body)) → Distinct given → Among given r → f r ≡ None → ((q : ℕ) → r ≢ q → g q ≡ f q)
    → lens given g ≡ lens given f + len_at (g r)
lens_one given r f g d a none same = omega (arith, lens_at given r f g d a same, ap len_at none)
