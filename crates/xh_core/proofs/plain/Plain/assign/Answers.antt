use Rattle.xh_core.proofs.Common.{Store, owner_lawful, store_of}
use Rattle.xh_core.proofs.plain.Plain.assign.Goals as goal

pub invariant_of-self : goal.invariant_of-self
invariant_of-self c =
    let s : Store = store_of c.self.inside in
    rw c.from.ensures (
      owner_lawful s c.args.r c.args.holder c.self.invariant.0 (rw (← c.self.view_is) at c.requires.known) (rw (← c.self.view_is) at c.requires.owner),
      c.self.invariant.1,
      c.self.invariant.2,
    )
