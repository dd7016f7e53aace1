use Rattle.std.proofs.Common.{[], ◌∷◌}
use Rattle.xh_history.proofs.histories.Histories.add.Given as goal

abbrev pub ghosts-step : goal.ghosts-step
ghosts-step g a = record { calls = g.call ∷ [] }
