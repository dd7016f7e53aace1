use Rattle.xh_arena.proofs.Shown.{lot_of}
use Rattle.xh_arena.proofs.vault.Vault.audit.Goals as goal

pub returns-clause-lot : goal.returns-clause-lot
returns-clause-lot g c = lot_of c.self.view_is c.lot.view_is c.lot.invariant c.self.invariant.balanced c.look_at.ensures.fits
