-- What is read of a store, and what giving back leaves of it.
use Rattle.xh_core.proofs.Common.{ArenaState, Direction, GiveBack, Holder, IsLawful, List, None, Option, Process, Some, Store, ap, arena_of, arith, can, change, cond}
use Rattle.xh_core.proofs.Common.{eq-eqb, false≢true, get_or-set_other, get_or-set_same, held_known, holds, is_held_by, is_known, known_there, len, length, length_of, nat_lt}
use Rattle.xh_core.proofs.Common.{nat_tests, no_arena, owner, refl, slice_index_or, slice_set, sum_by-append, sum_by-cons, times, true, ℕ, ◌%◌, ◌++◌, ◌+◌, ◌/◌, ◌<◌, ◌==◌, ◌∙◌, ◌∷◌, ◌≡◌, ◌≢◌}
use Rattle.std.proofs.Common.{false}
use Rattle.std.proofs.lemmas.List.{get_or_past}
use Rattle.xh_model.specs.declared.event.Event.{Event}
use Rattle.xh_model.specs.Store.{after}
use Rattle.xh_model.proofs.Returned.{given-own, given-run}
use Rattle.xh_core.proofs.Lengths.{len_but_one}

pub done : (e : Event) (s : Store) → can e s ≡ true → after e s ≡ change e s
unfolding after
done e s h = rw h refl

pub undone : (e : Event) (s : Store) → can e s ≡ false → after e s ≡ s
unfolding after
undone e s h = rw h refl

pub same_process : (o : Option Holder) (p : ℕ) → is_held_by o (Process p) ≡ true → o ≡ Some (Process p)
same_process None p h = absurd (false≢true h)
same_process (Some (Process q)) p h = let e : q ≡ p = grind (arith, nat_tests, h) in ap (λ (x : ℕ). Some (Process x)) e
same_process (Some (Direction q)) p h = absurd (false≢true h)

pub same_direction : (o : Option Holder) (d : ℕ) → is_held_by o (Direction d) ≡ true → o ≡ Some (Direction d)
same_direction None p h = absurd (false≢true h)
same_direction (Some (Direction q)) p h = let e : q ≡ p = grind (arith, nat_tests, h) in ap (λ (x : ℕ). Some (Direction x)) e
same_direction (Some (Process q)) p h = absurd (false≢true h)

-- a record with a holder is there
pub is_there : (s : Store) (h : Holder) (r : ℕ) → holds s h r ≡ true → r < length s.owners
is_there s h r e = let past = get_or_past s.owners r None in grind (arith, nat_tests, past, e)

-- what a list holds at each place once one place was written
pub at_set : {A : Type 0} (xs : List A) (i k : ℕ) (x d : A) → i < length xs → slice_index_or (slice_set xs i x) k d ≡ cond (k == i) x (slice_index_or xs k d)
at_set xs i k x d l = let here = get_or-set_same xs i x d l in let else = get_or-set_other xs i k x d in grind (arith, nat_tests, here, else)

pub own_holder : (s : Store) (p r : ℕ) → owner s r ≡ Some (Process p) → holds s (Process p) r ≡ true
own_holder s p r e = rw e (eq-eqb p p refl)

pub times-cons : (q r : ℕ) (rs : List ℕ) → times q (r ∷ rs) ≡ cond (r == q) 1 0 + times q rs
times-cons q r rs = sum_by-cons (λ x. cond (x == q) 1 0) r rs

pub count_append : (q : ℕ) (xs ys : List ℕ) → times q (xs ++ ys) ≡ times q xs + times q ys
count_append q xs ys = sum_by-append (λ x. cond {A = ℕ} (x == q) 1 0) xs ys

-- ---- lengths

-- lengths and the bytes handed out are read off the arenas alone
pub same_len : (s t : Store) (q : ℕ) → t.arenas ≡ s.arenas → len t q ≡ len s q
same_len s t q e = ap (λ (xs : List ArenaState). length_of (q % 256) (slice_index_or xs (q / 256) no_arena).cover) e

pub same_known : (s t : Store) (q : ℕ) → t.arenas ≡ s.arenas → is_known t q ≡ is_known s q
same_known s t q e = ap (λ (xs : List ArenaState). nat_lt (q % 256) (slice_index_or xs (q / 256) no_arena).records) e

-- what is given back has no bytes
pub len_back : (s : Store) (p r : ℕ) → r / 256 < length s.arenas → len (change (GiveBack p r) s) r ≡ 0
len_back s p r l = ap (λ (a : ArenaState). length_of (r % 256) a.cover) (get_or-set_same s.arenas (r / 256) _ no_arena l) ∙ given-own (r % 256) (arena_of s r).cover

-- the others have the bytes that they had
pub len_back_else : (s : Store) (p r q : ℕ) → r / 256 < length s.arenas → q ≢ r → len (change (GiveBack p r) s) q ≡ len s q
len_back_else s p r q l n = len_but_one s r _ l (λ j x. given-run (r % 256) j (arena_of s r).cover x) q n

-- the arena of a record that someone holds is there
pub arena_there : (s : Store) (h : Holder) (r : ℕ) → IsLawful s → holds s h r ≡ true → r / 256 < length s.arenas
arena_there s h r w e = known_there s r (held_known s h r w e)
