-- The history of each arena: what its vault was at the end of each call under its lock, beside the number of the worker that made the call.
use Rattle.std.specs.Prelude.{◌≡◌, ◌⊎◌, ◌<◌, ◌≤◌, ℕ, List, [], ◌∷◌, ◌++◌, All, length, slice_index_or, slice_set}
use Rattle.std.specs.List.{AllZip}
use Rattle.xh_arena.specs.declared.refused.Refused.{Refused as ArenaRefused}
use Rattle.xh_arena.specs.declared.refused.Refused.TheVariants as arena
use Rattle.xh_arena.specs.Refusals.{RefusesCarve}
use Rattle.xh_arena.specs.Views.{VaultOf}
use Rattle.xh_core.specs.ArenaLines.{arena_line}
use Rattle.xh_core.specs.declared.ledger.ArenaLine.{ArenaLine}
use Rattle.xh_core.specs.declared.refused.Refused.{Refused}
use Rattle.xh_core.specs.declared.refused.Refused.TheVariants.{NoSpace, Worn}
use Rattle.xh_history.specs.Histories.{FrontOf, History, PenOf, at, calls_of}
use Rattle.xh_model.specs.Arena.{IsLawfulArena}
use Rattle.xh_calls.specs.Parts.{PartsOf, IsUnused, IsVaultOf, vault_names}

-- ---- behind the lock of an arena

-- the last entry of the history is what the vault is; where it has none, the vault was never used
abbrev pub EndsIn : VaultOf → History VaultOf → Type 0
EndsIn v [] = IsUnused v
EndsIn v (c ∷ []) = c.1 ≡ v
EndsIn v (c ∷ d ∷ cs) = EndsIn v (d ∷ cs)

-- the vault of an arena, and the pen of the arena's history
pub record KeptOf : Type 0 where
  pub vault : VaultOf
  pub pen : PenOf VaultOf

-- each entry of the history is a worker's of these parts
abbrev pub AreTheirs : PartsOf → History VaultOf → Type 0
AreTheirs parts = All (λ c. c.0 < parts.workers)

-- the pen writes a history of these parts, the vault is that of the pen's arena, and the history is of their workers and ends in it
abbrev pub IsKeptVault : PartsOf → VaultOf → PenOf VaultOf → Type 0
IsKeptVault parts v pen = (pen.table ≡ parts.vaults) × IsVaultOf parts pen.number v × EndsIn v pen.history × AreTheirs parts pen.history

-- the pens of the histories 0, 1, ..
abbrev pub AreInOrder : {E : Type 0} → List (PenOf E) → Type 0
AreInOrder {E} pens = (k : ℕ) (d : PenOf E) → k < length pens → (slice_index_or pens k d).number ≡ k

-- the vaults of all arenas of these parts, in order, and the pen beside each
pub record AreKeptVaults (parts : PartsOf) (vaults : List VaultOf) (pens : List (PenOf VaultOf)) : Type 0 where
  pub names : vault_names vaults ≡ parts.records.shape.names
  pub kept : AllZip (IsKeptVault parts) vaults pens
  pub in_order : AreInOrder pens

-- ---- one call

-- a worker of these parts has seen this of the histories of their arenas
abbrev pub IsSeenOf : PartsOf → FrontOf VaultOf → Type 0
IsSeenOf parts seen = (seen.table ≡ parts.vaults) × (seen.number < parts.workers)

-- A worker's call on the vault of the arena found it as v, and left it as w. What the worker has seen of the arena now is what it had seen, then entries of others, then this one.
pub record Enters (a : ℕ) (v w : VaultOf) (old new : FrontOf VaultOf) : Type 0 where
  pub others : History VaultOf
  pub not_its_own : calls_of old.number others ≡ []
  pub found : EndsIn v (at old.fronts a ++ others)
  pub seen : new ≡ record old { fronts = slice_set old.fronts a ((at old.fronts a ++ others) ++ (old.number, w) ∷ []) }

-- The worker that has seen this called on these arenas, one after another: each time what it had seen of the arena's history is what it had, then entries of others, then one of its own. Of all
-- other arenas it has seen what it had.
abbrev pub Entered : List ℕ → FrontOf VaultOf → FrontOf VaultOf → Type 0
Entered [] old new = new ≡ old
Entered (a ∷ arenas) old new = (others : History VaultOf) × (w : VaultOf) × (calls_of old.number others ≡ [])
    × Entered arenas (record old { fronts = slice_set old.fronts a ((at old.fronts a ++ others) ++ (old.number, w) ∷ []) }) new

-- the call was one on the arena of these parts
abbrev pub Leaves : PartsOf → FrontOf VaultOf → FrontOf VaultOf → ℕ → VaultOf → VaultOf → Type 0
Leaves parts old new a v w = IsVaultOf parts a v × Enters a v w old new

-- the call was one on the arena of these parts, and did this to its vault
abbrev pub DoesTo : PartsOf → ℕ → FrontOf VaultOf → FrontOf VaultOf → (VaultOf → VaultOf → Type 0) → Type 0
DoesTo parts a old new does = (v : VaultOf) × (w : VaultOf) × Leaves parts old new a v w × does v w

-- the vault of the arena, as the call found it, refused to carve n bytes for this reason, and stayed what it was; the call stands in the arena's history
abbrev pub IsRefusedBy : PartsOf → ℕ → ℕ → FrontOf VaultOf → FrontOf VaultOf → ArenaRefused → Type 0
IsRefusedBy parts a n old new e = (v : VaultOf) × Leaves parts old new a v v × IsLawfulArena v.arena × RefusesCarve n v.arena e

-- a look at the arena, which left the vault as it was, and tells what the ledger would say of it
abbrev pub Tells : PartsOf → FrontOf VaultOf → ℕ → ArenaLine → FrontOf VaultOf → Type 0
Tells parts old a line new = DoesTo parts a old new (λ v w. (w ≡ v) × (line ≡ arena_line v.arena))

-- NoSpace and Worn are what the arena's vault answered, or no arena of these parts has n bytes; for other reasons no vault was asked
abbrev pub AsksVault : PartsOf → ℕ → ℕ → FrontOf VaultOf → FrontOf VaultOf → Refused → Type 0
AsksVault parts a n old new NoSpace = ((parts.size < n) × (new ≡ old)) ⊎ IsRefusedBy parts a n old new arena.NoSpace
AsksVault parts a n old new Worn = IsRefusedBy parts a n old new arena.Worn
AsksVault parts a n old new _ = new ≡ old
