-- Why a table of rows is no contract.
use Rattle.std.specs.Prelude.{◌≡◌, List, []}
use Rattle.xh_model.specs.declared.row.Row.{Row}
use Rattle.xh_model.specs.Rows.{IsInRange, IsValid}
use Rattle.xh_core.specs.declared.refused.Refused.{Refused}
use Rattle.xh_core.specs.declared.refused.Refused.TheVariants.{BadSize, Protocol}

-- BadSize exactly where a number is out of range; ahead of Protocol, which comes where two rows don't agree and hands nothing back
abbrev pub IsNoContract : List Row → Refused → Type 0
IsNoContract rows BadSize = ¬ IsInRange rows
IsNoContract rows (Protocol back) = (back.items ≡ []) × IsInRange rows × ¬ IsValid rows
IsNoContract rows _ = ⊥
