-- Within which limits a machine is made.
use Rattle.std.specs.Prelude.{◌≡◌, ◌≤◌, ◌%◌, Result, Ok, Err}
use Rattle.xh_model.specs.Arena.{AreLimits}
use Rattle.xh_model.specs.declared.config.Config.{Config}
use Rattle.xh_model.specs.declared.config.Limit.{Limit}
use Rattle.xh_model.specs.declared.config.Limit.TheVariants.{Arenas, Bytes, Records, Depth, Wear}
use Rattle.xh_model.specs.declared.limits.TheConstants.{MAX_ARENAS, MAX_BYTES, MAX_DEPTH, MAX_RECORDS, MAX_WEAR, UNIT}

-- the arenas and the messages that may wait in a direction are some and not too many, and each arena is in its limits
pub record IsConfig (c : Config) : Type 0 where
  pub some_arenas : 1 ≤ c.arenas
  pub most_arenas : c.arenas ≤ MAX_ARENAS
  pub arena : AreLimits c.bytes c.records c.wear
  pub some_depth : 1 ≤ c.depth
  pub most_depth : c.depth ≤ MAX_DEPTH

-- it keeps a limit, which is named by its field
abbrev pub Keeps : Limit → Config → Type 0
Keeps Arenas c = (1 ≤ c.arenas) × (c.arenas ≤ MAX_ARENAS)
Keeps Bytes c = (UNIT ≤ c.bytes) × (c.bytes ≤ MAX_BYTES) × (c.bytes % UNIT ≡ 0)
Keeps Records c = (1 ≤ c.records) × (c.records ≤ MAX_RECORDS)
Keeps Depth c = (1 ≤ c.depth) × (c.depth ≤ MAX_DEPTH)
Keeps Wear c = c.wear ≤ MAX_WEAR

-- it is answered if it is in its limits, and else a limit that it does not keep
abbrev pub IsChecked : Config → Result Config Limit → Type 0
IsChecked c (Ok d) = (d ≡ c) × IsConfig c
IsChecked c (Err limit) = Keeps limit c → ⊥
