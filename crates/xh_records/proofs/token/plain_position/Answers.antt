use Rattle.xh_records.proofs.Common.{nat_tests, arith, ◌≡◌, ℕ, ◌<◌, List, length, get_or, get_elem?, sym, ap, ◌∙◌, some}
use Rattle.xh_records.proofs.Elements.{in_range, is_there, nth_is}
use Rattle.xh_records.proofs.token.plain_position.Goals as goal

-- a slot that was read stands where it was read
read_at : (order : List ℕ) (k slot : ℕ) → k < length order → get_or order k 0 ≡ slot → get_elem? order k ≡ some slot
read_at order k slot below is = let t = is_there order k below in t.1 ∙ ap some (sym (nth_is order k 0 t.0 t.1) ∙ is)

pub returns-then-order-k : goal.returns-then-order-k
returns-then-order-k c = read_at c.args.order.now c.loop-k.k c.args.slot (omega arith) c.if-order-k.true

pub loop-k-preserved : goal.loop-k-preserved
loop-k-preserved c = grind (arith, nat_tests, nth_is)

pub returns : goal.returns
returns c = let below = in_range c.args.order.now c.loop-k.invariant.0 c.args.slot c.loop-k.invariant.2 in absurd (omega arith)
