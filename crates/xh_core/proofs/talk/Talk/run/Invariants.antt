use Rattle.xh_core.proofs.Common.{talk_after_all, drop, ◌≡◌}
use Rattle.xh_core.proofs.talk.Talk.run.Given as goal

-- what is left makes of the talk now what all makes of the first
abbrev pub invariant-loop-turn : goal.invariant-loop-turn
invariant-loop-turn l = talk_after_all (drop l.turn-index l.turns) l.self ≡ talk_after_all l.turns l.fn.self
