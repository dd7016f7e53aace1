use Rattle.std.proofs.Common.{vec_len}
use Rattle.std.specs.Vec.{vec_capacity}
use Rattle.xh_runner.proofs.Common.{DoesLine, Plays, length, part, take, world_of, ◌≤◌}
use Rattle.xh_runner.proofs.run.run_part.Given as goal

abbrev pub invariant-loop-line : goal.invariant-loop-line
invariant-loop-line g l = record {
  played : Plays (DoesLine g.M.Machine.did) (world_of g.M.Machine.state l.fn.head) (part l.processes l.number (take l.line-index l.lines)) l.replies.items (world_of g.M.Machine.state l.head);
  room : (vec_len l.replies ≤ l.line-index) × (length l.lines ≤ vec_capacity l.replies);
}
