-- What the plain machine of the code is to a clause.
use Rattle.xh_model.specs.Store.{Store}
use Rattle.xh_core.specs.declared.plain.Plain.TheInside.{Inside as PlainInside}

abbrev pub store_of : PlainInside → Store
store_of s = record { owners = s.owners.items; arenas = s.arenas.items }
