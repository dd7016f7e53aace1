use Rattle.xh_kernel.specs.Histories.{LeadsToPlace}
use Rattle.xh_thread_tests.proofs.machines.on_gated.Given as goal

abbrev pub ghosts-on_parts : goal.ghosts-on_parts
ghosts-on_parts g a = record { parts = a.parts; leads = LeadsToPlace a.parts }
