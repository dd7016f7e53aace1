use Rattle.xh_place.proofs.Common.{◌≡◌, ◌-◌, ◌*◌, ◌≤◌, length, shown, Becomes, IsSameDesk, IsSwept, Item, List, IsSeen}
use Rattle.xh_model.specs.declared.event.Event.{Event}
use Rattle.xh_place.specs.Vaults.{BringsBack}
use Rattle.xh_place.proofs.place.Place.sweep.Given as goal

abbrev pub invariant-loop-used : goal.invariant-loop-used
invariant-loop-used g l = (l.used ≤ l.budget) × (l.bytes ≤ l.used * 4294967295)
    × ((log : List (Event × Item)) × IsSwept (IsSeen l.initial.self.seat l.self.seat) l.initial.self.seat.process l.from l.used (shown l.initial.self.seat.lots l.initial.self.list)
    (shown l.self.seat.lots l.self.list) l.bytes log
    × Becomes l.self.seat.lots l.self.list log l.initial.self l.self)
    × (length l.initial.self.list ≤ l.from → l.self.list ≡ l.initial.self.list)
    × IsSameDesk g.V.Vaults.names g.V.Vaults.extent l.initial.desk l.desk × BringsBack g.V.Vaults.changes g.V.Vaults.tallies l.bytes l.initial.desk.vaults l.desk.vaults

abbrev pub decreases-loop-used : goal.decreases-loop-used
decreases-loop-used g l = l.budget - l.used
