use Rattle.xh_core.proofs.Common.{allowed, drop, ◌≡◌}
use Rattle.xh_core.proofs.contract.Contract.allows.Given as goal

abbrev pub invariant-loop-row : goal.invariant-loop-row
invariant-loop-row l = allowed (drop l.row-index l.self) l.state l.tag l.side ≡ allowed l.self l.state l.tag l.side
