-- What stands at a record, by the header of the block that the process has there, if it has one.
use Rattle.std.specs.Prelude.{ℕ, Bool, true, false, not, Option, Some, None}
use Rattle.xh_core.specs.declared.header.Header.{Header}
use Rattle.xh_core.specs.declared.header.Kind.{Kind}
use Rattle.xh_core.specs.declared.header.Kind.TheVariants.{Data, End}

abbrev pub is_data : Kind → Bool
is_data Data = true
is_data End = false

abbrev pub has_data : Option Header → Bool
has_data None = false
has_data (Some block) = is_data block.kind

abbrev pub has_end : Option Header → Bool
has_end None = false
has_end (Some block) = not (is_data block.kind)

abbrev pub len_in : Option Header → ℕ
len_in None = 0
len_in (Some block) = block.len
