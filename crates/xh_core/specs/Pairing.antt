-- What it is that a process gets two records for the ends of a channel.
use Rattle.std.specs.Prelude.{◌≡◌, ◌≢◌, ℕ, ◌*◌, ◌==◌, ◌||◌, cond, length, Some, None}
use Rattle.xh_model.specs.declared.limits.TheConstants.{END_BYTES}
use Rattle.xh_model.specs.declared.event.Event.TheVariants.{Claim, Carve, Cut}
use Rattle.xh_model.specs.Store.{Store, len, after, owner, IsLawful}
use Rattle.xh_model.specs.declared.event.Holder.TheVariants.{Process}
use Rattle.xh_core.specs.Space.{free_record, claimed_once}
use Rattle.xh_core.specs.Several.{handed}

-- p claims r and t, 64 bytes are carved for r and cut in halves
abbrev pub with_pair : ℕ → ℕ → ℕ → Store → Store
with_pair p r t s = after (Cut p r t END_BYTES) (after (Carve p r (2 * END_BYTES)) (after (Claim p t) (after (Claim p r) s)))

-- p has the lowest free record of the arena, and the next one, which were free; each of the two has 32 bytes now, the halves of 64; no other record changed hands, or has more or fewer
pub record Paired (p a r t : ℕ) (s n : Store) : Type 0 where
  pub low : free_record s a ≡ Some r
  pub high : free_record (claimed_once p s a) a ≡ Some t
  pub is : n ≡ with_pair p r t s
  pub lawful : IsLawful n
  pub apart : r ≢ t
  pub free : (owner s r ≡ None) × (owner s t ≡ None)
  pub owners : (q : ℕ) → owner n q ≡ cond ((q == r) || (q == t)) (Some (Process p)) (owner s q)
  pub many : length n.owners ≡ length s.owners
  pub head : len n r ≡ END_BYTES
  pub tail : len n t ≡ END_BYTES
  pub kept : (q : ℕ) → q ≢ r → q ≢ t → len n q ≡ len s q

-- the end t goes on its own direction d from p to q; where they are one process it stays
abbrev pub moved : ℕ → ℕ → ℕ → ℕ → Store → Store
moved p q t d s = cond (p == q) s (handed p q t d s)
