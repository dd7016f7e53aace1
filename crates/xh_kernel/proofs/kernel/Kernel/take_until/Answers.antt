use Rattle.std.specs.Prelude.{true}
use Rattle.xh_kernel.proofs.Calling.{DidTake, Empty, Err, in_vain, rules, ◌≡◌}
use Rattle.xh_kernel.proofs.kernel.Kernel.take_until.Goals as goal

pub loop-preserved-in-Some-turn : goal.loop-preserved-in-Some-turn
loop-preserved-in-Some-turn g c =
    let is : c.is_empty.result ≡ true = search rules in
    in_vain (DidTake g.N.Names.leads c.args.p c.args.e) (λ a. a ≡ Err Empty) _ _ _ _ (rw is at c.is_empty.ensures) c.loop.invariant c.look_for-turn.ensures

pub loop-preserved : goal.loop-preserved
loop-preserved g c =
    let is : c.is_empty.result ≡ true = search rules in
    in_vain (DidTake g.N.Names.leads c.args.p c.args.e) (λ a. a ≡ Err Empty) _ _ _ _ (rw is at c.is_empty.ensures) c.loop.invariant c.look_for-turn.ensures
