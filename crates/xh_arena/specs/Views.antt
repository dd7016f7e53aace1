-- What contracts see of a vault, a lot and a tally. `id` is the same in all that one `Vault::new` gave.
use Rattle.std.specs.Prelude.{◌≡◌, ℕ, ◌≤◌, List, map, length, sum, slice_get, Some}
use Rattle.atomic_table.specs.Seated.{TableId}
use Rattle.xh_model.specs.Arena.{ArenaState, AreLimits}
use Rattle.xh_model.specs.declared.limits.TheConstants.{MAX_WORKERS}

-- a lot: whose it is, its record in that arena, its length, and what travels with it
pub record LotOf (B : Type 0) : Type 0 where
  pub id : TableId
  pub index : ℕ
  pub len : ℕ
  pub body : B

-- a tally: whose it is, its number, and the bytes that it has taken and given back
pub record TallyOf : Type 0 where
  pub id : TableId
  pub number : ℕ
  pub taken : ℕ
  pub back : ℕ

-- what a tally had moved when it was collected
pub record Move : Type 0 where
  pub number : ℕ
  pub taken : ℕ
  pub back : ℕ

-- a vault: its id, its arena, the bytes given back by all tallies, how many tallies it has, and those that it took in.
-- The bytes that all tallies have taken are the arena's wear.
pub record VaultOf : Type 0 where
  pub id : TableId
  pub arena : ArenaState
  pub back : ℕ
  pub workers : ℕ
  pub collected : List Move

-- once each tally was collected, the bytes taken and given back are the sums over them
abbrev pub AreSummed : ℕ → ℕ → ℕ → List Move → Type 0
AreSummed taken back workers ms = length ms ≡ workers → (sum (map (λ m. m.taken) ms) ≡ taken) × (sum (map (λ m. m.back) ms) ≡ back)

-- the empty lots of a new vault, in the order of their records
abbrev pub AreLots : {B : Type 0} → (B → Type 0) → TableId → ℕ → List (LotOf B) → Type 0
AreLots {B} new id count ls = (length ls ≡ count) × ((i : ℕ) (l : LotOf B) → slice_get ls i ≡ Some l → (l.id ≡ id) × (l.index ≡ i) × (l.len ≡ 0) × new l.body)

-- the tallies of a new vault, in the order of their numbers: none has moved a byte
abbrev pub AreTallies : TableId → ℕ → List TallyOf → Type 0
AreTallies id count ts = (length ts ≡ count) × ((i : ℕ) (t : TallyOf) → slice_get ts i ≡ Some t → t ≡ record { id = id; number = i; taken = 0; back = 0 })

-- the limits of a new vault
pub record AreVaultLimits (size records limit workers : ℕ) : Type 0 where
  pub arena : AreLimits size records limit
  pub some_workers : 1 ≤ workers
  pub most_workers : workers ≤ MAX_WORKERS
