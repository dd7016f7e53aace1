-- The limits that a script is run with.
use Rattle.std.specs.Prelude.{◌≤◌}
use Rattle.xh_model.specs.Config.{IsConfig}
use Rattle.xh_model.specs.declared.config.Config.{Config}
use Rattle.xh_script.specs.declared.limits.TheConstants.{MAX_ARENA_BYTES}

-- a machine can be made with them, and its arenas are no larger than a script's
pub record IsScriptConfig (c : Config) : Type 0 where
  pub machine : IsConfig c
  pub bytes : c.bytes ≤ MAX_ARENA_BYTES
