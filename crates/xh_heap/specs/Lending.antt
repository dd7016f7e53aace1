-- What a team is, once the process that it lent comes back.
use Rattle.std.specs.Prelude.{◌≡◌, ℕ, Result, slice_set}
use Rattle.std.specs.Borrow.{Fml, LendsSoOk, MutBor, RattleType}
use Rattle.xh_core.specs.declared.refused.Refused.{Refused}
use Rattle.xh_heap.specs.contracts.job.Team.{the_row}
use Rattle.xh_heap.specs.declared.job.Team.{Team}

-- its processes are as they were, but for what was left at the index
abbrev pub LendsOne : (P : RattleType) → MutBor (Team P.Denot) → ℕ → Result (MutBor P.Denot) Refused → Fml
LendsOne P team index result = LendsSoOk (the_row P) P team result (λ left p. left.all.items ≡ slice_set team.now.all.items index p) (λ left. left.all.items ≡ team.now.all.items)
