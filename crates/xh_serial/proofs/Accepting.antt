-- What passing or accepting several records leaves of a store.
use Rattle.xh_serial.proofs.Common.{Direction, Holder, List, Option, Pass, Process, Some, Store, [], accept_all, after, ap, arith, at_set, change, cond, done, holds, is_there, len, length, lt-ltb, nat_lt}
use Rattle.xh_serial.proofs.Common.{nat_tests, owner, pass_all, refl, same_len, times, times-cons, true, ℕ, ◌<◌, ◌==◌, ◌∙◌, ◌∷◌, ◌≡◌, ◌≤◌}
use Rattle.std.proofs.Common.{length-set}
use Rattle.xh_model.specs.declared.event.Event.TheVariants.{Accept}

-- these are h's now
pub record Went (h : Holder) (rs : List ℕ) (s t : Store) : Type 0 where
  pub owners : (q : ℕ) → owner t q ≡ cond (nat_lt 0 (times q rs)) (Some h) (owner s q)
  pub many : length t.owners ≡ length s.owners
  pub arenas : t.arenas ≡ s.arenas

-- h holds these and one more
pub all_owners : (h : Holder) (q r : ℕ) (rs : List ℕ) (o : Option Holder) →
    cond (nat_lt 0 (times q rs)) (Some h) (cond (q == r) (Some h) o) ≡ cond (nat_lt 0 (times q (r ∷ rs))) (Some h) o
all_owners h q r rs o = let t = times-cons q r rs in grind (arith, nat_tests, t)

pub accepted_all : (p d : ℕ) (rs : List ℕ) (s : Store) → p < 65504 → ((q : ℕ) → times q rs ≤ cond (holds s (Direction d) q) 1 0) → Went (Process p) rs s (accept_all p d rs s)
accepted_all p d [] s l h = record { owners = λ q. refl; many = refl; arenas = refl }
accepted_all p d (r ∷ rs) s l h =
    let first : holds s (Direction d) r ≡ true = grind (arith, nat_tests, times-cons r r rs, h r) in
    let is : after (Accept p r d) s ≡ change (Accept p r d) s = done (Accept p r d) s (rw (lt-ltb p 65504 l, first) refl) in
    let own : (q : ℕ) → owner (after (Accept p r d) s) q ≡ cond (q == r) (Some (Process p)) (owner s q) = grind (arith, nat_tests, at_set, is_there) in
    let more : Went (Process p) rs (after (Accept p r d) s) (accept_all p d rs (after (Accept p r d) s)) = accepted_all p d rs (after (Accept p r d) s) l
    (λ q. grind (arith, nat_tests, times-cons q r rs, h q, own q)) in
    record {
      owners = λ q. more.owners q ∙ rw (own q) (all_owners (Process p) q r rs (owner s q));
      many = more.many ∙ (ap (λ (t : Store). length t.owners) is ∙ length-set s.owners r (Some (Process p)));
      arenas = more.arenas ∙ ap (λ (t : Store). t.arenas) is;
    }

pub passed_all : (p d : ℕ) (rs : List ℕ) (s : Store) → d < 128 → ((q : ℕ) → times q rs ≤ cond (holds s (Process p) q) 1 0) → ((q : ℕ) → holds s (Process p) q ≡ true → 0 < len s q) →
    Went (Direction d) rs s (pass_all p d rs s)
passed_all p d [] s l h f = record { owners = λ q. refl; many = refl; arenas = refl }
passed_all p d (r ∷ rs) s l h f =
    let first : holds s (Process p) r ≡ true = grind (arith, nat_tests, times-cons r r rs, h r) in
    let is : after (Pass p r d) s ≡ change (Pass p r d) s = done (Pass p r d) s (rw (lt-ltb d 128 l, first, lt-ltb 0 (len s r) (f r first)) refl) in
    let own : (q : ℕ) → owner (after (Pass p r d) s) q ≡ cond (q == r) (Some (Direction d)) (owner s q) = grind (arith, nat_tests, at_set, is_there) in
    let long : (q : ℕ) → len (after (Pass p r d) s) q ≡ len s q = (λ q. same_len s (after (Pass p r d) s) q (ap (λ (t : Store). t.arenas) is)) in
    let more : Went (Direction d) rs (after (Pass p r d) s) (pass_all p d rs (after (Pass p r d) s)) = passed_all p d rs (after (Pass p r d) s) l
    (λ q. grind (arith, nat_tests, times-cons q r rs, h q, own q)) (λ q y. grind (arith, nat_tests, own q, long q, f q)) in
    record {
      owners = λ q. more.owners q ∙ rw (own q) (all_owners (Direction d) q r rs (owner s q));
      many = more.many ∙ (ap (λ (t : Store). length t.owners) is ∙ length-set s.owners r (Some (Direction d)));
      arenas = more.arenas ∙ ap (λ (t : Store). t.arenas) is;
    }
