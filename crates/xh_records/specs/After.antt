-- What an event on the ownership is to the core: the ownership, as the table has it, goes along with the event's change of a store.
use Rattle.std.specs.Prelude.{◌≡◌, ℕ, ◌<◌, List, [], ◌∷◌, true, length}
use Rattle.xh_model.specs.declared.event.Event.{Event}
use Rattle.xh_model.specs.declared.event.Event.TheVariants.{Claim, Carve, Cut, GiveBack, Vacate, Pass, Accept}
use Rattle.xh_model.specs.Store.{Store, arena_of, len, can, after}
use Rattle.xh_model.specs.Slots.{AreOwners}
use Rattle.xh_model.specs.Words.{Ownership, IsDone, record_of}

-- the length that the record of an event has to have; a carving, a cut and a giving back are none of the table's
abbrev pub Wants : Event → ℕ → Type 0
Wants (Claim p r) bytes = Unit {0}
Wants (Carve p r n) bytes = ⊥
Wants (Cut p r t k) bytes = ⊥
Wants (GiveBack p r) bytes = ⊥
Wants (Vacate p r) bytes = bytes ≡ 0
Wants (Pass p r d) bytes = 0 < bytes
Wants (Accept p r d) bytes = Unit {0}

-- on each store that has the ownership o, with n records in an arena, the event can be done where the record has the length that it wants, and the store after it has the ownership o'
abbrev pub IsAfter : ℕ → Ownership → Event → Ownership → Type 0
IsAfter n o e o' = (m : Store) → AreOwners n o m → (arena_of m (record_of e)).records ≡ n → record_of e < length m.owners → Wants e (len m (record_of e))
    → (can e m ≡ true) × AreOwners n o' (after e m)

-- the events lead from o to o', in this order, each also by the meaning that it has in the core
abbrev pub LeadsOnStores : ℕ → Ownership → List Event → Ownership → Type 0
LeadsOnStores n o [] o' = o' ≡ o
LeadsOnStores n o (e ∷ es) o' = (m : Ownership) × IsDone n o e m × IsAfter n o e m × LeadsOnStores n m es o'
