use Rattle.xh_kernel.proofs.Calling.{DidTakeAny, Empty, Err, in_vain, ◌≡◌}
use Rattle.xh_kernel.proofs.kernel.Kernel.take_any_until.Goals as goal

pub loop-preserved : goal.loop-preserved
loop-preserved g c =
    let did = c.search-answer.ensures in
    in_vain (DidTakeAny g.N.Names.leads c.args.p c.args.ends.now) (λ a. a ≡ Err Empty) c.search-answer.result.0 _ _ _ (rw c.in-Some-bell.is at did.vain) c.loop.invariant did.call
