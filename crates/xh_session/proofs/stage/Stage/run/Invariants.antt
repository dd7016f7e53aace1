use Rattle.xh_session.proofs.Common.{world_after, answers, drop, length, vec_capacity, vec_len, ◌++◌, ◌≡◌, ◌≤◌}
use Rattle.xh_session.proofs.stage.Stage.run.Given as goal

abbrev pub invariant-loop-line : goal.invariant-loop-line
invariant-loop-line l = record {
  answered : l.replies.items ++ answers l.self (drop l.line-index l.lines) ≡ answers l.fn.self l.lines;
  rest : world_after l.self (drop l.line-index l.lines) ≡ world_after l.fn.self l.lines;
  count : vec_len l.replies ≡ l.line-index;
  room : length l.lines ≤ vec_capacity l.replies;
}
