use Rattle.std.proofs.Common.{vec_len}
use Rattle.xh_runner.proofs.Common.{LAST, List, NumberedReply, drop, into_iter_items, map, suc, ◌++◌, ◌≡◌}
use Rattle.xh_runner.specs.inner.Tasks.{AreEnough, Tells}
use Rattle.xh_runner.proofs.replies.answers_of.Given as goal

abbrev pub invariant-loop-line : goal.invariant-loop-line
invariant-loop-line l = record {
  tells : (late : List NumberedReply) → Tells l.processes (drop l.line-index l.lines) late (map into_iter_items l.parts.items)
      → Tells l.processes l.lines (l.answers.items ++ late) (map into_iter_items l.fn.parts.items);
  enough : AreEnough l.processes (drop l.line-index l.lines) (map into_iter_items l.parts.items);
  count : vec_len l.parts ≡ suc LAST;
}
