use Rattle.xh_runner.proofs.Common.{PLACES, drop, no_processes, replicate, told, ◌≡◌}
use Rattle.xh_runner.proofs.replies.latest.Given as goal

abbrev pub invariant-loop-at : goal.invariant-loop-at
invariant-loop-at l = told l.numbers l.processes (drop l.at l.lines) (drop l.at l.answers) ≡ told (replicate PLACES 0) no_processes l.lines l.answers
