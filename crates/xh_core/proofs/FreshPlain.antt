-- A new store is lawful.
use Rattle.xh_core.proofs.Common.{All-replicate, AreCarved, ArenaState, Holder, IsWithinWear, IsConfig, IsLawful, IsLawfulArena, None, Option, Some, ap, arena_at, arith}
use Rattle.xh_core.proofs.Common.{bytes_out, cond, false≢true, is_some, length, length-replicate, length_of, no_arena, owner, refl, replicate, slice_index_or, suc}
use Rattle.xh_core.proofs.Common.{sym, zero, ℕ, ◌%◌, ◌*◌, ◌/◌, ◌<◌, ◌∙◌, ◌≡◌, ◌≤◌}
use Rattle.std.proofs.lemmas.List.Folds.{sum_by-replicate}
use Rattle.xh_model.specs.declared.config.Config.{Config}
use Rattle.xh_model.specs.Store.{new_store}
use Rattle.xh_model.proofs.Lengths.{none_of}

pub at_replicate : {A : Type 0} (n i : ℕ) (x : A) → slice_index_or (replicate n x) i x ≡ x
at_replicate zero i x = refl
at_replicate (suc n) zero x = refl
at_replicate (suc n) (suc i) x = at_replicate n i x

-- what is so of each of some alike is so of the one at a place, and of what stands for one that is not there
alike : {A : Type 0} (P : A → Type 0) (n k : ℕ) (a d : A) → P a → P d → P (slice_index_or (replicate n a) k d)
alike P zero k a d x y = y
alike P (suc n) zero a d x y = x
alike P (suc n) (suc k) a d x y = alike P n k a d x y

none_out : (n : ℕ) → bytes_out (replicate n None) ≡ 0
none_out n = omega (arith, sum_by-replicate (λ (x : Option ℕ). cond {A = ℕ} (is_some x) 1 0) n None)

-- nothing but nothing is lawful
blank : (n i w l : ℕ) → IsLawfulArena (record { cover = replicate n None; records = i; wear = w; limit = l })
blank n i w l = record {
  named = λ k r e. absurd (let f : None ≡ Some r = sym (at_replicate {A = Option ℕ} n k None) ∙ e in cc);
  runs = λ r some. absurd (let z = none_of r n in omega (arith, z, some));
}

module _ (c : Config) (is : IsConfig c) where
  each : ArenaState
  each = record { cover = replicate c.bytes None; records = c.records; wear = 0; limit = c.wear }

  free : (r : ℕ) → owner (new_store c) r ≡ None
  unfolding new_store
  free r = at_replicate {A = Option Holder} (256 * c.arenas) r None

  pub new_lawful : IsLawful (new_store c)
  unfolding new_store
  new_lawful = record {
    few = rw (length-replicate {A = ArenaState} c.arenas (record { cover = replicate c.bytes None; records = c.records; wear = 0; limit = c.wear })) is.most_arenas;
    long = length-replicate {A = Option Holder} (256 * c.arenas) None ∙ sym (ap (λ n. 256 * n) (length-replicate {A = ArenaState} c.arenas _));
    covers = λ k. alike IsLawfulArena c.arenas k _ no_arena (blank c.bytes c.records 0 c.wear) (blank 0 0 0 0);
    records = λ k. alike (λ (a : ArenaState). a.records ≤ 256) c.arenas k _ no_arena is.arena.most_records (omega arith);
    owned = λ r. rw (free r) (alike (λ (a : ArenaState). length_of (r % 256) a.cover ≡ 0) c.arenas (r / 256) _ no_arena (none_of (r % 256) c.bytes) refl);
    known = λ r h. absurd (false≢true (rw (free r) at h));
  }

  pub new_records : (k : ℕ) → k < length (new_store c).arenas → (arena_at (new_store c) k).records ≡ c.records
  unfolding new_store
  new_records k l = All-replicate (λ (a : ArenaState). a.records ≡ c.records) c.arenas _ refl k no_arena l

  pub new_carved : AreCarved (new_store c)
  unfolding new_store
  new_carved = All-replicate IsWithinWear c.arenas _ (let z = none_out c.bytes in omega (arith, z))
