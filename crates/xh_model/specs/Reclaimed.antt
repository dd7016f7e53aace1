-- What reclaiming some records frees: them, and with each endpoint what is on its way to it.
use Rattle.std.specs.Prelude.{◌≡◌, ℕ, ◌&&◌, Bool, true, false, List, [], ◌∷◌, is_some, is_none}
use Rattle.xh_model.specs.Store.{Store, owner}

-- each of the records is in the set
abbrev pub Includes : (ℕ → Bool) → List ℕ → Type 0
Includes set [] = Unit {0}
Includes set (r ∷ rs) = (set r ≡ true) × Includes set rs

-- with each endpoint in the set, the records in the messages on their way to it are in it
abbrev pub IsClosedUnder : (ℕ → List ℕ) → (ℕ → Bool) → Type 0
IsClosedUnder arriving set = (e : ℕ) → set e ≡ true → Includes set (arriving e)

-- the least closed set that includes the start
pub record IsReclaimed (arriving : ℕ → List ℕ) (start : List ℕ) (set : ℕ → Bool) : Type 0 where
  pub includes : Includes set start
  pub closed : IsClosedUnder arriving set
  pub least : (other : ℕ → Bool) → Includes other start → IsClosedUnder arriving other → (r : ℕ) → set r ≡ true → other r ≡ true

-- whether the record had a holder and has none now
abbrev pub freed : Store → Store → ℕ → Bool
freed s t r = is_some (owner s r) && is_none (owner t r)

-- exactly the reclaimed set of the start is freed, and no other record changes its holder
pub record Frees (arriving : ℕ → List ℕ) (s t : Store) (start : List ℕ) : Type 0 where
  pub gone : IsReclaimed arriving start (freed s t)
  pub kept : (r : ℕ) → freed s t r ≡ false → owner t r ≡ owner s r
