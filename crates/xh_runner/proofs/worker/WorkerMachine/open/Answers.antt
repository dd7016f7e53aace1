use Rattle.std.proofs.Common.{refl, sym}
use Rattle.xh_runner.proofs.worker.WorkerMachine.open.Goals as goal

pub returns-in-Some : goal.returns-in-Some
returns-in-Some g c = (rw c.in-Some.is (rw (sym c.copy-contract.ensures) c.open_with.ensures), refl)

pub returns-in-None : goal.returns-in-None
returns-in-None g c = (rw c.in-None.is c.open.ensures, refl)
