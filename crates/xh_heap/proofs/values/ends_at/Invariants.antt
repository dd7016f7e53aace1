use Rattle.std.proofs.Common.{map, take, ◌≡◌}
use Rattle.xh_heap.specs.Values.{end_at}
use Rattle.xh_heap.proofs.values.ends_at.Given as goal

abbrev pub invariant-loop-end : goal.invariant-loop-end
invariant-loop-end g l = l.recs.items ≡ map (λ e. end_at (g.E.AsEnd.shows e) l.p) (take l.end-index l.seen)
