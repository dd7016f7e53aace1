use Rattle.xh_session.proofs.Common.{map, option_map, take, ◌≡◌}
use Rattle.xh_session.proofs.session.Session.take.Given as goal

abbrev pub invariant-loop-block : goal.invariant-loop-block
invariant-loop-block g l = l.lengths.items ≡ map (option_map (λ b. b.len)) (take l.block-index l.blocks)
