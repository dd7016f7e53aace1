use Rattle.xh_kernel.specs.Histories.{LeadsToPlace}
use Rattle.xh_play.proofs.calls.play_calls.Given as goal

abbrev pub ghosts-play_parts : goal.ghosts-play_parts
ghosts-play_parts g a = record { parts = a.parts; leads = LeadsToPlace a.parts }
