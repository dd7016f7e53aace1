-- A refusal for want of space is that of the arena's vault.
use Rattle.xh_calls.proofs.Common.{Block, END_BYTES, Err, FrontOf, IfErr, IsRefusedBy, Leaves, MatchOption, None, Ok, PartsOf, Refused, Result, Some}
use Rattle.xh_calls.proofs.Common.{Bool, IsLack, Status, arith, cond, false, length, start, subst, sym, true, ◌++◌}
use Rattle.xh_calls.proofs.Common.{VaultOf, ap, first_refusal, inr, ℕ, ⊎_elim, ◌*◌, ◌<◌, ◌≡◌, ◌⊎◌}
use Rattle.std.proofs.lemmas.Bool.Decides.{nat_tests}
use Rattle.std.specs.Prelude.{◌≢◌}
use Rattle.xh_arena.specs.declared.refused.Refused.{Refused as ArenaRefused}
use Rattle.xh_arena.specs.declared.refused.Refused.TheVariants as arena
use Rattle.xh_calls.specs.Channels.{IsNoChannel}
use Rattle.xh_calls.specs.Vaults.{AsksVault}
use Rattle.xh_calls.specs.declared.heap.Till.{Till}
use Rattle.xh_core.specs.declared.refused.Refused.TheVariants as refused
use Rattle.xh_core.specs.Calls.{arena_tests}
use Rattle.xh_core.specs.declared.status.Status.TheVariants.{Running}
use Rattle.xh_records.specs.declared.shape.Shape.{Shape}
use Rattle.xh_place.specs.Vaults.{IsNoPair, IsRefusedAt}

-- what the ends of a channel lack, by what the lent vaults say
module _ {V : Type 0} (old new : V) (front : V → FrontOf VaultOf) (parts : PartsOf) (a : ℕ) (same full : Type 0) where
  abbrev changes : V → V → ℕ → VaultOf → VaultOf → Type 0
  changes x y = Leaves parts (front x) (front y)

  pub lacks : (e : Refused) → IsNoPair changes old new a (2 * END_BYTES) full e → IsNoChannel parts same full a e × AsksVault parts a (2 * END_BYTES) (front old) (front new) e
  lacks refused.NoSpace h = ((h.0, h.1.0, h.2, h.3), inr h)
  lacks refused.NoRecord h = (h.1, ap front h.0)
  lacks refused.Worn h = ((h.0, h.1.0, h.2, h.3), h)
  lacks e h = absurd h

-- a process that runs may open a channel in an arena that is there
pub passes : (s : Status) (a : ℕ) (z : Shape) {w : Shape} → s ≡ Running → z ≡ w → a < length w.names → first_refusal (start s ++ arena_tests a (length z.names)) ≡ None
passes s a z {w} is same there = rw (is, same) (grind (arith, nat_tests))

-- no channel was had
pub none_had : (parts : PartsOf) (same full : Type 0) (a : ℕ) (e : Refused) → (e ≡ refused.NoChannel) ⊎ ((e ≡ refused.OutOfMemory) × (parts.comes_back ≡ true)) → same
    → IsNoChannel parts same full a e
none_had parts same full a e h is = ⊎_elim
    (λ (s : e ≡ refused.NoChannel). rw s is)
    (λ (s : (e ≡ refused.OutOfMemory) × (parts.comes_back ≡ true)). rw s.0 (s.1, is)) h

-- ---- alloc

-- NoSpace and Worn are what the vault answered: no test of an alloc refuses so; for other reasons the vaults are as they were
module _ (parts : PartsOf) (a n : ℕ) (f g : FrontOf VaultOf) (Same : Type 0) (is_same : Same → g ≡ f) where
  unasked : (result : Result Block Refused) (e : Refused) → result ≡ Err e → (e ≢ refused.NoSpace) → (e ≢ refused.Worn)
      → IfErr result (λ why. why ≢ refused.NoSpace → why ≢ refused.Worn → Same) → g ≡ f
  unasked result e is space worn still = is_same (subst (λ (r : Result Block Refused). IfErr r (λ why. why ≢ refused.NoSpace → why ≢ refused.Worn → Same)) is still space worn)

  asks : (full same : Type 0) (P : ArenaRefused → Type 0) (w x y z : Bool) (result : Result Block Refused) → ((why : ArenaRefused) → P why → IsRefusedBy parts a n f g why)
      → IfErr result (λ why. why ≢ refused.NoSpace → why ≢ refused.Worn → Same)
      → MatchOption (cond w (Some refused.NoProcess) (cond x (Some refused.Ended) (cond y (Some refused.NoArena) (cond z (Some refused.BadSize) None)))) (IfErr result (IsLack full P))
      (λ e. (result ≡ Err e) × same) → IfErr result (AsksVault parts a n f g)
  asks full same P true x y z result more still h = rw h.0 (unasked result refused.NoProcess h.0 (λ e. absurd (cc)) (λ e. absurd (cc)) still)
  asks full same P false true y z result more still h = rw h.0 (unasked result refused.Ended h.0 (λ e. absurd (cc)) (λ e. absurd (cc)) still)
  asks full same P false false true z result more still h = rw h.0 (unasked result refused.NoArena h.0 (λ e. absurd (cc)) (λ e. absurd (cc)) still)
  asks full same P false false false true result more still h = rw h.0 (unasked result refused.BadSize h.0 (λ e. absurd (cc)) (λ e. absurd (cc)) still)
  asks full same P false false false false (Ok b) more still h = tt
  asks full same P false false false false (Err refused.NoSpace) more still h = inr (more arena.NoSpace h)
  asks full same P false false false false (Err refused.Worn) more still h = more arena.Worn h
  asks full same P false false false false (Err refused.NoRecord) more still h = is_same (still (λ e. absurd (cc)) (λ e. absurd (cc)))
  asks full same P false false false false (Err refused.OutOfMemory) more still h = is_same (still (λ e. absurd (cc)) (λ e. absurd (cc)))
  asks full same P false false false false (Err e) more still h = absurd h

-- so of vaults that were lent with what lies in a till
module _ {V : Type 0} (parts : PartsOf) (a n : ℕ) (x y : V) (till : V → Till) {f g : Till} (start : till x ≡ f) (end : g ≡ till y) where
  pub asked : (full same : Type 0) (no_process ended no_arena bad_size : Bool) (result : Result Block Refused) → IfErr result (λ why. why ≢ refused.NoSpace → why ≢ refused.Worn → y ≡ x)
      → MatchOption (cond no_process (Some refused.NoProcess) (cond ended (Some refused.Ended) (cond no_arena (Some refused.NoArena) (cond bad_size (Some refused.BadSize) None))))
      (IfErr result (IsLack full (IsRefusedAt (λ v w. Leaves parts (till v).seen (till w).seen) x y a n))) (λ e. (result ≡ Err e) × same) → IfErr result (AsksVault parts a n f.seen g.seen)
  asked full same no_process ended no_arena bad_size result still h = subst (λ (z : Till). IfErr result (AsksVault parts a n z.seen g.seen)) start
      (subst (λ (z : Till). IfErr result (AsksVault parts a n (till x).seen z.seen)) (sym end)
      (asks parts a n (till x).seen (till y).seen (y ≡ x) (ap (λ (v : V). (till v).seen)) full same _ no_process ended no_arena bad_size result (λ why r. r) still h))
