-- A free record is claimed, and gets bytes.
use Rattle.xh_core.proofs.Common.{Bool, Carve, Claim, Cut, Holder, IsLawful, IsOwner, List, None, Option, Process, Some, Store, Vacate, [], ap, arena_at, arith, can, cases_Bool, cases_eq, cond}
use Rattle.xh_core.proofs.Common.{eq-eqb, false≢true, first_refusal, free_record, holds, inl, inr, is_held_by, is_known, known_there, len, length, length-set, lt-ltb, nat_lt, nat_tests, ne_eqb}
use Rattle.xh_core.proofs.Common.{owner, range_with_len, refl, set-get_or, slice_index_or, slice_set, space_tests, subst, suc, sym, times, true, with_owner, zero, ℕ, ◌%◌, ◌*◌, ◌+◌, ◌/◌, ◌<◌}
use Rattle.xh_core.proofs.Common.{◌==◌, ◌∙◌, ◌∷◌, ◌≡◌, ◌≢◌, ◌≤◌}
use Rattle.std.proofs.Common.{eqb-true, is_none, set-set}
use Rattle.std.proofs.lemmas.Option.{same_Some}
use Rattle.std.specs.List.{find}
use Rattle.xh_model.specs.Store.{after}
use Rattle.xh_core.specs.Gaining.{Gained}
use Rattle.xh_core.proofs.Stores.{done, own_holder, times-cons, at_set, same_len}

-- ---- the lowest free record

pub record IsFree (s : Store) (a r : ℕ) : Type 0 where
  pub free : owner s r ≡ None
  pub known : is_known s r ≡ true
  pub arena : r / 256 ≡ a

-- the first number of a range that passes a test is in the range, and passes
found_in : (p : ℕ → Bool) (a n r : ℕ) → find p (range_with_len a n) ≡ Some r → (p r ≡ true) × ((a ≤ r) × (r < a + n))
found_in p a zero r e = absurd (cc)
found_in p a (suc n) r e = elim (cases_Bool (p a)) [
  | inl y ↦ (let here : a ≡ r = same_Some a r (rw y at e) in (subst (λ (k : ℕ). p k ≡ true) here y, (omega (arith, here), omega (arith, here))))
  | inr f ↦ (let more = found_in p (a + 1) n r (rw f at e) in (more.0, (omega (arith, more.1.0), omega (arith, more.1.1))))
]

pub free_is : (s : Store) (a r : ℕ) → IsLawful s → free_record s a ≡ Some r → IsFree s a r
free_is s a r w e =
    let at = found_in (λ q. is_none (owner s q)) (256 * a) (arena_at s a).records r e in
    let few : (arena_at s a).records ≤ 256 = w.records a in
    let arena : r / 256 ≡ a = omega (arith, at.1.0, at.1.1, few) in
    record {
      free = grind (arith, nat_tests, at.0);
      known = rw arena (lt-ltb (r % 256) (arena_at s a).records (omega (arith, at.1.0, at.1.1, few)));
      arena = arena;
    }

-- ---- a claim

-- p claimed r
pub record Claimed (p r : ℕ) (s t : Store) : Type 0 where
  pub is : t ≡ with_owner r (Some (Process p)) s
  pub there : r < length s.owners
  pub owners : (q : ℕ) → owner t q ≡ cond (q == r) (Some (Process p)) (owner s q)
  pub arenas : t.arenas ≡ s.arenas
  pub many : length t.owners ≡ length s.owners
  pub holds : holds t (Process p) r ≡ true
  pub known : is_known t r ≡ true
  pub empty : len t r ≡ 0

pub no_bytes : (o : Option Holder) (n : ℕ) → o ≡ None → IsOwner o n → n ≡ 0
no_bytes o n e i = subst (λ (x : Option Holder). IsOwner x n) e i

pub in_range : (s : Store) (r : ℕ) → IsLawful s → is_known s r ≡ true → r < length s.owners
in_range s r w k = let l = known_there s r k in let e = w.long in omega arith

pub claim_is : (s : Store) (p r : ℕ) → p < 65504 → is_known s r ≡ true → owner s r ≡ None → after (Claim p r) s ≡ with_owner r (Some (Process p)) s
claim_is s p r l k f = done (Claim p r) s (rw (lt-ltb p 65504 l, k, f) refl)

pub claimed : (s : Store) (p r : ℕ) → IsLawful s → p < 65504 → is_known s r ≡ true → owner s r ≡ None → Claimed p r s (after (Claim p r) s)
claimed s p r w l k f =
    let is : after (Claim p r) s ≡ with_owner r (Some (Process p)) s = claim_is s p r l k f in
    let there : r < length s.owners = in_range s r w k in
    let arenas : (after (Claim p r) s).arenas ≡ s.arenas = ap (λ (t : Store). t.arenas) is in
    let owners : (q : ℕ) → owner (after (Claim p r) s) q ≡ cond (q == r) (Some (Process p)) (owner s q) = (λ q. ap (λ (t : Store). owner t q) is ∙ at_set s.owners r q (Some (Process p)) None there) in
    record {
      is = is;
      there = there;
      owners = owners;
      arenas = arenas;
      many = ap (λ (t : Store). length t.owners) is ∙ length-set s.owners r (Some (Process p));
      holds = own_holder (after (Claim p r) s) p r (owners r ∙ rw (eq-eqb r r refl) refl);
      known = rw is k;
      empty = rw is (no_bytes (owner s r) (len s r) f (w.owned r));
    }

-- a claim that is taken back leaves all as it was
pub unclaimed : (s : Store) (p r : ℕ) → IsLawful s → p < 65504 → is_known s r ≡ true → owner s r ≡ None → after (Vacate p r) (after (Claim p r) s) ≡ s
unclaimed s p r w l k f =
    let c : Claimed p r s (after (Claim p r) s) = claimed s p r w l k f in
    let can_vacate : can (Vacate p r) (after (Claim p r) s) ≡ true = rw (c.holds, c.empty) refl in
    let same : slice_set (slice_set s.owners r (Some (Process p))) r None ≡ s.owners =
    set-set s.owners r (Some (Process p)) None ∙ (ap (λ (o : Option Holder). slice_set s.owners r o) (sym f) ∙ set-get_or s.owners r None) in
    done (Vacate p r) (after (Claim p r) s) can_vacate ∙ (ap (λ (t : Store). with_owner r None t) c.is ∙ ap (λ (os : List (Option Holder)). record s { owners = os }) same)

-- ---- bytes

-- the holders stay where bytes are carved or cut
pub carve-owners : (s : Store) (p r n : ℕ) → (after (Carve p r n) s).owners ≡ s.owners
unfolding after
carve-owners s p r n = elim (cases_Bool (can (Carve p r n) s)) [ inl y ↦ rw y refl | inr f ↦ rw f refl ]

pub cut-owners : (s : Store) (p r t k : ℕ) → (after (Cut p r t k) s).owners ≡ s.owners
unfolding after
cut-owners s p r t k = elim (cases_Bool (can (Cut p r t k) s)) [ inl y ↦ rw y refl | inr f ↦ rw f refl ]

-- the tests of room speak of the arenas alone
pub same_space : (s t : Store) (a n : ℕ) → t.arenas ≡ s.arenas → first_refusal (space_tests t a n) ≡ first_refusal (space_tests s a n)
same_space s t a n e = rw e refl

pub one_time : (q r : ℕ) → times q (r ∷ []) ≡ cond (r == q) 1 0
one_time q r = times-cons q r [] ∙ elim (cases_Bool (r == q)) [ inl y ↦ rw y refl | inr f ↦ rw f refl ]

pub is_one : (q r : ℕ) → nat_lt 0 (times q (r ∷ [])) ≡ (q == r)
is_one q r = let t = one_time q r in grind (arith, nat_tests, t)

one_at_most : (q r : ℕ) → times q (r ∷ []) ≤ 1
one_at_most q r = let t = one_time q r in grind (arith, nat_tests, t)

-- one record is claimed, and has bytes then
pub gained_one : (s t : Store) (p r : ℕ) → IsLawful t → Claimed p r s (after (Claim p r) s) → owner s r ≡ None → t.owners ≡ (after (Claim p r) s).owners → 0 < len t r →
    ((q : ℕ) → q ≢ r → 0 < len s q → 0 < len t q) → Gained p (r ∷ []) s t
gained_one s t p r w c f same some kept = record {
  lawful = w;
  free = λ q y. let e : q ≡ r = eqb-true q r (sym (is_one q r) ∙ y) in subst (λ (x : ℕ). owner s x ≡ None) (sym e) f;
  once = λ q. one_at_most q r;
  owners = λ q. ap (λ (os : List (Option Holder)). slice_index_or os q None) same ∙ (c.owners q ∙ rw (is_one q r) refl);
  full = λ q y. let e : q ≡ r = eqb-true q r (sym (is_one q r) ∙ y) in subst (λ (x : ℕ). 0 < len t x) (sym e) some;
  kept = λ q l. elim (cases_eq q r) [ inl e ↦ subst (λ (x : ℕ). 0 < len t x) (sym e) some | inr n ↦ kept q n l ];
  many = ap length same ∙ c.many;
}

-- ---- a cut

-- a record whose owner is none is another than one that is held
pub apart : (s : Store) (p r t : ℕ) → holds s (Process p) r ≡ true → owner s t ≡ None → r ≢ t
apart s p r t h f e = false≢true (sym (ap (λ (x : ℕ). holds s (Process p) x) e ∙ rw f refl) ∙ h)

pub can_cut : (s u : Store) (p r t k : ℕ) → Claimed p t s u → holds s (Process p) r ≡ true → r ≢ t → r / 256 ≡ t / 256 → 0 < k → k % 16 ≡ 0 → k < len s r → can (Cut p r t k) u ≡ true
can_cut s u p r t k cl held ne arena some multiple inside =
    let own : holds u (Process p) r ≡ true = ap (λ (o : Option Holder). is_held_by o (Process p)) (cl.owners r ∙ rw (ne_eqb r t ne) refl) ∙ held in
    let long : k < len u r = subst (λ (n : ℕ). k < n) (sym (same_len s u r cl.arenas)) inside in
    rw (own, cl.holds, eq-eqb (r / 256) (t / 256) arena, ne_eqb r t ne, cl.empty, multiple, lt-ltb 0 k some, lt-ltb k (len u r) long) refl
