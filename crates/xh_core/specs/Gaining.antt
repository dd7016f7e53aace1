-- What it is that a process gains records.
use Rattle.std.specs.Prelude.{◌≡◌, ℕ, ◌<◌, ◌≤◌, true, cond, Some, None, List, length, nat_lt}
use Rattle.xh_model.specs.declared.event.Holder.TheVariants.{Process}
use Rattle.xh_model.specs.Store.{Store, owner, len, IsLawful}
use Rattle.xh_core.specs.Several.{times}

-- p gained the records rs, which were free; they have bytes now, and no other record changed hands, or lost its last byte
pub record Gained (p : ℕ) (rs : List ℕ) (s t : Store) : Type 0 where
  pub lawful : IsLawful t
  pub free : (q : ℕ) → nat_lt 0 (times q rs) ≡ true → owner s q ≡ None
  pub once : (q : ℕ) → times q rs ≤ 1
  pub owners : (q : ℕ) → owner t q ≡ cond (nat_lt 0 (times q rs)) (Some (Process p)) (owner s q)
  pub full : (q : ℕ) → nat_lt 0 (times q rs) ≡ true → 0 < len t q
  pub kept : (q : ℕ) → 0 < len s q → 0 < len t q
  pub many : length t.owners ≡ length s.owners
