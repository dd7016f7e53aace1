-- What an owner word, as the code has it, says of who holds its record.
use Rattle.std.specs.Prelude.{Option, Some, None}
use Rattle.xh_model.specs.declared.event.Holder.{Holder}
use Rattle.xh_model.specs.declared.event.Holder.TheVariants.{Process, Direction}
use Rattle.xh_records.specs.declared.word.OwnerWord.{OwnerWord}
use Rattle.xh_records.specs.declared.word.OwnerWord.TheVariants.{Free, Owned, InFlight}

abbrev pub holder_of : OwnerWord → Option Holder
holder_of Free = None
holder_of (Owned p) = Some (Process p)
holder_of (InFlight d) = Some (Direction d)
