-- What the parts of a kernel have in common.
use Rattle.std.specs.Prelude.{◌≡◌, ℕ, ◌<◌, ◌≤◌, Bool, false, List, [], length, map, replicate, slice_get, None, Some}
use Rattle.atomic_table.specs.Seated.{TableId}
use Rattle.xh_arena.specs.Views.{VaultOf}
use Rattle.xh_history.specs.Histories.{no_table}
use Rattle.xh_model.specs.declared.config.Config.{Config}
use Rattle.xh_model.specs.declared.limits.TheConstants.{MAX_WORKERS}
use Rattle.xh_model.specs.Config.{IsConfig}
use Rattle.xh_records.specs.declared.shape.Shape.{Shape}
use Rattle.xh_records.specs.Seats.{RecordsOf}

-- the table of the records, whose shape has the names of the vaults in the order of their arenas; how many workers
-- share each vault, the bytes of each, and how many it may ever hand out; how many messages may wait in a direction, and
-- whether channels come back once their ends are gone; how often a place is used; and the tables of the histories of the
-- places, and of those of the arenas
pub record PartsOf : Type 0 where
  pub records : RecordsOf
  pub workers : ℕ
  pub size : ℕ
  pub wear : ℕ
  pub depth : ℕ
  pub comes_back : Bool
  pub generations : ℕ
  pub histories : TableId
  pub vaults : TableId

abbrev pub no_shape : Shape
no_shape = record { records = 0; places = 0; names = [] }

abbrev pub no_parts : PartsOf
no_parts = record {
  records = record { table = no_table; shape = no_shape };
  workers = 0;
  size = 0;
  wear = 0;
  depth = 0;
  comes_back = false;
  generations = 0;
  histories = no_table;
  vaults = no_table;
}

-- the limits that a kernel's parts are made with
pub record ArePartsLimits (config : Config) (workers : ℕ) : Type 0 where
  pub within : IsConfig config
  pub some_workers : 1 ≤ workers
  pub most_workers : workers ≤ MAX_WORKERS

-- parts that were made by a configuration, for so many workers, to use each place so often
abbrev pub AreMadeBy : Config → ℕ → ℕ → PartsOf → Type 0
AreMadeBy config workers generations p = (p.workers ≡ workers) × (p.size ≡ config.bytes) × (p.wear ≡ config.wear) × (p.depth ≡ config.depth)
    × (p.records.shape.records ≡ config.records) × (length p.records.shape.names ≡ config.arenas) × (p.generations ≡ generations)

abbrev pub vault_names : List VaultOf → List TableId
vault_names = map (λ v. v.id)

-- a vault for so many workers, none of whose tallies it took in yet, of so many records and bytes, that may ever hand
-- out so many
abbrev pub IsNew : ℕ → ℕ → ℕ → ℕ → VaultOf → Type 0
IsNew workers records size wear v = (v.workers ≡ workers) × (v.collected ≡ []) × (0 < workers) × (v.arena.records ≡ records) × (length v.arena.cover ≡ size) × (v.arena.limit ≡ wear)

-- nothing of it was ever handed out, or came back
abbrev pub IsUnused : VaultOf → Type 0
IsUnused v = (v.arena.cover ≡ replicate (length v.arena.cover) None) × (v.arena.wear ≡ 0) × (v.back ≡ 0)

-- such a vault of these parts
abbrev pub IsOpen : PartsOf → VaultOf → Type 0
IsOpen p = IsNew p.workers p.records.shape.records p.size p.wear

-- that of an arena of these parts
abbrev pub IsVaultOf : PartsOf → ℕ → VaultOf → Type 0
IsVaultOf p a v = (slice_get p.records.shape.names a ≡ Some v.id) × IsOpen p v
