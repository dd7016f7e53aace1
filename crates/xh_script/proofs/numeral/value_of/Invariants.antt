use Rattle.xh_script.proofs.Common.{take, value_of, ◌*◌, ◌+◌, ◌^◌, ◌≡◌, ◌≤◌}
use Rattle.xh_script.proofs.numeral.value_of.Given as goal

-- also of bytes that are no digits
abbrev pub invariant-loop-b : goal.invariant-loop-b
invariant-loop-b l = record { so_far : l.value ≡ value_of (take l.b-index l.digits); small : l.value + 23 ≤ 23 * 10 ^ l.b-index }
