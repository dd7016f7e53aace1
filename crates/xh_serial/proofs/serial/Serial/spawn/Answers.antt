use Rattle.xh_serial.proofs.Common.{IsWhole, List, Machine, NoPlace, Place, ap, is_ready, machine_of, ok_or, position, refl, spawn, subst}
use Rattle.xh_serial.proofs.Opening.{spawn_whole}
use Rattle.xh_serial.proofs.serial.Serial.spawn.Goals as goal

pub invariant_of-self : goal.invariant_of-self
invariant_of-self c =
    let m : Machine = machine_of c.self.inside in
    subst (λ (ps : List Place). IsWhole (record m { places = ps })) (ap (λ x. x.1) c.start.ensures) (spawn_whole m (position is_ready m.places) c.self.invariant refl)

pub returns : goal.returns
unfolding spawn
returns c =
    let m : Machine = machine_of c.self.inside in
    rw (← c.self.view_is, c.ok_or.ensures.value)
    (λ i. (ok_or (c.start.ensures i).0 NoPlace, record m { places = (c.start.ensures i).1 }))
