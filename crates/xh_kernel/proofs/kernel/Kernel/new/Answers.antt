use Rattle.xh_kernel.proofs.Common.{All, IsOpen, subst, ◌∙◌}
use Rattle.xh_kernel.specs.inner.Making.{AreFirstSeats}
use Rattle.xh_kernel.proofs.kernel.Kernel.new.Goals as goal

pub new-requires-clause-open_vaults : goal.new-requires-clause-open_vaults
new-requires-clause-open_vaults g c = subst (λ p. All (IsOpen p) c.parts.inside.vaults.items) (c.parts.view_is ∙ c.requires.names) c.parts.invariant.open_vaults

pub lock_places-requires-clause-seats : goal.lock_places-requires-clause-seats
lock_places-requires-clause-seats g c = subst (λ p. AreFirstSeats p.records c.parts.inside.seats.items) (c.parts.view_is ∙ c.requires.names) c.parts.invariant.seats
