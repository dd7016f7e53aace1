use Rattle.std.specs.Array.{FillsFrom}
use Rattle.xh_calls.specs.Vaults.{IsSeenOf, Tells}
use Rattle.xh_kernel.proofs.Common.{Entry, FrontOf, LookOf, length, ◌++◌, ◌≡◌}
use Rattle.xh_kernel.specs.Looks.{TellsPlace}
use Rattle.xh_kernel.proofs.kernel.Kernel.overview.Given as goal

abbrev pub invariant-loop-arena : goal.invariant-loop-arena
invariant-loop-arena g l =
    let parts = g.N.Names.parts in
    ((rest : _) (end : _) → FillsFrom (Tells parts) l.seen l.arena rest end → FillsFrom (Tells parts) l.initial.seen 0 (l.arenas.items ++ rest) end)
    × (length l.arenas.items ≡ l.arena) × IsSeenOf parts l.seen

abbrev pub invariant-loop-place : goal.invariant-loop-place
invariant-loop-place g l =
    let table = g.N.Names.parts.histories in let tells = TellsPlace l.initial.front.number in
    let saw : FrontOf Entry → LookOf Entry = λ f. record { table = table; fronts = f.fronts; looks = f.looks } in
    ((rest : _) (end : _) → FillsFrom tells (saw l.front) l.place rest end → FillsFrom tells (saw l.initial.front) 0 (l.places.items ++ rest) end)
    × (length l.places.items ≡ l.place) × (l.front.number ≡ l.initial.front.number) × (l.front.table ≡ table)
