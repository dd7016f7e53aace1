-- What a new bench is.
use Rattle.std.specs.Prelude.{◌≡◌, [], ◌∷◌}
use Rattle.xh_arena.specs.Views.{TallyOf, VaultOf}
use Rattle.xh_records.specs.Seats.{Held, IsSeatOf, RecordsOf}

-- the seats of the first two processes, which have no lot yet, and one arena, with a tally
abbrev pub IsNewBench : {B : Type 0} → RecordsOf → Held B → Held B → VaultOf → TallyOf → Type 0
IsNewBench all first second vault tally = (IsSeatOf all first × IsSeatOf all second) × ((first.lots ≡ []) × (second.lots ≡ [])) × ((first.process ≡ 0) × (second.process ≡ 1))
    × (all.shape.names ≡ vault.id ∷ []) × (tally.id ≡ vault.id)
