use Rattle.xh_kernel.specs.Histories.{LeadsToPlace}
use Rattle.xh_runner.proofs.threads.run_threads.Given as goal

abbrev pub ghosts-run_named : goal.ghosts-run_named
ghosts-run_named g a = record { parts = a.parts; leads = LeadsToPlace a.parts }
