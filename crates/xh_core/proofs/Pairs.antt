-- Two free records are claimed, and get bytes.
use Rattle.xh_core.proofs.Common.{Bool, Carve, Claim, Holder, IsLawful, List, None, Option, Process, Some, Store, Vacate, ap, arith, cond, first_refusal, free_record, get_or-set_other}
use Rattle.xh_core.proofs.Common.{holds, is_known, known_there, length, nat_tests, owner, owner_lawful, slice_index_or, space_tests, subst, sym, true, with_owner, ℕ, ◌/◌}
use Rattle.xh_core.proofs.Common.{◌<◌, ◌∙◌, ◌≡◌, ◌≢◌}
use Rattle.std.proofs.Common.{false, is_none, unwrap_or, ◌||◌}
use Rattle.xh_model.specs.Store.{after}
use Rattle.xh_core.specs.declared.refused.Refused.TheVariants.{NoRecord}
use Rattle.xh_core.specs.declared.refused.Refused.{Refused}
use Rattle.xh_core.specs.Space.{claimed_once, pair_tests}
use Rattle.xh_core.proofs.Stores.{at_set}
use Rattle.xh_core.proofs.Claiming.{Claimed, IsFree, apart, carve-owners, claim_is, claimed, free_is, unclaimed}

once_is : (p : ℕ) (s : Store) (a r : ℕ) → free_record s a ≡ Some r → claimed_once p s a ≡ after (Claim p r) s
once_is p s a r e = ap (λ (o : Option ℕ). after (Claim p (unwrap_or o 2048)) s) e

-- a claim that is taken back leaves all as it was
pub back_again : (s m n : Store) (p a r : ℕ) → IsLawful s → p < 65504 → free_record s a ≡ Some r → m ≡ after (Claim p r) s → n ≡ after (Vacate p r) m → n ≡ s
back_again s m n p a r w l low claim back = let f : IsFree s a r = free_is s a r w low in back ∙ (ap (after (Vacate p r)) claim ∙ unclaimed s p r w l f.known f.free)

-- ---- a claim may change places with a carving for another record

known_carved : (s : Store) (p r n q : ℕ) → r / 256 < length s.arenas → is_known (after (Carve p r n) s) q ≡ is_known s q
unfolding after
known_carved s p r n q l = grind (arith, nat_tests, at_set)

given_carved : (s : Store) (p r n t : ℕ) (o : Option Holder) → r ≢ t → after (Carve p r n) (with_owner t o s) ≡ with_owner t o (after (Carve p r n) s)
unfolding after
given_carved s p r n t o ne = grind (arith, nat_tests, get_or-set_other)

-- ---- the two lowest free records

-- r and t are free; when r has n bytes, it is held, and t is as free as before
pub record TwoFree (p a r t n : ℕ) (s : Store) : Type 0 where
  pub low : free_record s a ≡ Some r
  pub high : free_record (claimed_once p s a) a ≡ Some t
  pub arena : r / 256 ≡ a
  pub known_r : is_known s r ≡ true
  pub free_r : owner s r ≡ None
  pub apart : r ≢ t
  pub free : owner s t ≡ None
  pub both : r / 256 ≡ t / 256
  pub held : holds (after (Carve p r n) (after (Claim p r) s)) (Process p) r ≡ true
  pub known_t : is_known (after (Carve p r n) (after (Claim p r) s)) t ≡ true
  pub free_t : owner (after (Carve p r n) (after (Claim p r) s)) t ≡ None
  pub later : after (Claim p t) (after (Carve p r n) (after (Claim p r) s)) ≡ after (Carve p r n) (after (Claim p t) (after (Claim p r) s))

pub two_free : (s : Store) (p a r t n : ℕ) → IsLawful s → p < 65504 → free_record s a ≡ Some r → free_record (after (Claim p r) s) a ≡ Some t → TwoFree p a r t n s
two_free s p a r t n w l low high =
    let first : IsFree s a r = free_is s a r w low in
    let mid : Store = after (Claim p r) s in
    let one : Claimed p r s mid = claimed s p r w l first.known first.free in
    let second : IsFree mid a t = free_is mid a t (rw one.is (owner_lawful s r (Some (Process p)) w first.known l)) high in
    let unlike : r ≢ t = apart mid p r t one.holds second.free in
    let same : (after (Carve p r n) mid).owners ≡ mid.owners = carve-owners mid p r n in
    let known : is_known (after (Carve p r n) mid) t ≡ true = known_carved mid p r n t (known_there mid r one.known) ∙ second.known in
    let free : owner (after (Carve p r n) mid) t ≡ None = ap (λ (os : List (Option Holder)). slice_index_or os t None) same ∙ second.free in
    record {
      low = low;
      high = rw (once_is p s a r low) high;
      arena = first.arena;
      known_r = first.known;
      free_r = first.free;
      apart = unlike;
      free = grind (arith, nat_tests, one.owners t, second.free);
      both = first.arena ∙ sym second.arena;
      held = rw same one.holds;
      known_t = known;
      free_t = free;
      later = claim_is (after (Carve p r n) mid) p t l known free
          ∙ (sym (given_carved mid p r n t (Some (Process p)) unlike) ∙ ap (after (Carve p r n)) (sym (claim_is mid p t l second.known second.free)));
    }

-- what is left is whether there is room
pub pair_room : (p a r t n : ℕ) (s : Store) (o : Option Refused) → TwoFree p a r t n s → first_refusal (space_tests s (r / 256) 64) ≡ o → first_refusal (pair_tests p s a) ≡ o
pair_room p a r t n s o two room =
    let none : (is_none (free_record s a) || is_none (free_record (claimed_once p s a) a)) ≡ false = (λ i. is_none (two.low i) || is_none (two.high i)) in
    ap (λ (b : Bool). cond {A = Option Refused} b (Some NoRecord) (first_refusal (space_tests s a 64))) none ∙ subst (λ (k : ℕ). first_refusal (space_tests s k 64) ≡ o) two.arena room
