use Rattle.xh_place.proofs.Common.{◌≡◌, [], take, true, is_some, list_all, value_at, Acts}
use Rattle.xh_place.proofs.checks.holds_all.Given as goal

abbrev pub invariant-loop-r : goal.invariant-loop-r
invariant-loop-r l = Acts [] l.initial.seat.lots l.initial.seat l.seat × (list_all (λ r. is_some (value_at r l.initial.seat.lots)) (take l.r-index l.blocks) ≡ true)
