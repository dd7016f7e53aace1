use Rattle.xh_session.proofs.Common.{MAX_SCRIPT, ReadsBytes, length, ◌+◌, ◌-◌, ◌≤◌}
use Rattle.xh_session.proofs.input.read_text.Given as goal

abbrev pub invariant-loop-room : goal.invariant-loop-room
invariant-loop-room g l = record {
  reads : ReadsBytes g.R.Read.remaining l.fn.reader l.reader l.text.items;
  short : length l.text.items ≤ MAX_SCRIPT + 1;
}

abbrev pub decreases-loop-room : goal.decreases-loop-room
decreases-loop-room g l = MAX_SCRIPT + 1 - length l.text.items
