use Rattle.xh_kernel.proofs.Calling.{in_vain}
use Rattle.xh_kernel.specs.Did.{DidAlloc}
use Rattle.xh_kernel.specs.Waits.{IsNoMemory}
use Rattle.xh_kernel.proofs.kernel.Kernel.alloc_until.Goals as goal

pub loop-preserved : goal.loop-preserved
loop-preserved g c =
    in_vain (DidAlloc g.N.Names.parts g.N.Names.leads c.args.p c.args.n c.args.arena) IsNoMemory c.alloc-answer.result _ _ _ (rw c.in-Some-lacking.is at c.of-lacking.ensures) c.loop.invariant
    c.alloc-answer.ensures

pub loop-preserved-then-eq : goal.loop-preserved-then-eq
loop-preserved-then-eq g c =
    in_vain (DidAlloc g.N.Names.parts g.N.Names.leads c.args.p c.args.n c.args.arena) IsNoMemory c.alloc-answer.result _ _ _ (rw c.in-Some-lacking.is at c.of-lacking.ensures) c.loop.invariant
    c.alloc-answer.ensures
