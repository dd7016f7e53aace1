use Rattle.xh_kernel.proofs.Calling.{DidGive, in_vain, no_room, ◌≡◌}
use Rattle.xh_kernel.proofs.kernel.Kernel.give_until.Goals as goal

pub loop-preserved : goal.loop-preserved
loop-preserved g c =
    let did = c.send-answer.ensures in let given = c.args.blocks.now in
    in_vain (DidGive g.N.Names.leads c.args.p c.args.e c.args.tag given) (λ a. a ≡ no_room given) c.send-answer.result.0 _ _ _ (rw c.in-Some-bell.is at did.vain) c.loop.invariant did.call
