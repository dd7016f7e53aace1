-- What a run leaves.
use Rattle.std.specs.Prelude.{◌≡◌, ℕ, All, List, true}
use Rattle.xh_books.specs.Closing.{AreClosed}
use Rattle.xh_calls.specs.Leading.{Leading}
use Rattle.xh_calls.specs.Parts.{AreMadeBy, PartsOf}
use Rattle.xh_calls.specs.declared.call.Entry.{Entry}
use Rattle.xh_heap.specs.Handles.{HandleOf}
use Rattle.xh_heap.specs.Plans.{IsPlannedAnew}
use Rattle.xh_heap.specs.declared.closed.Closed.{Closed}
use Rattle.xh_history.specs.Histories.{LookOf}
use Rattle.xh_kernel.specs.Accounts.{AccountOf}
use Rattle.xh_kernel.specs.Histories.{LeadsToPlace}
use Rattle.xh_model.specs.declared.config.Config.{Config}
use Rattle.xh_model.specs.declared.limits.TheConstants.{GENERATIONS, MAX_WORKERS}

module _ {P A : Type 0} (planned : P → PartsOf → List HandleOf → List HandleOf → Type 0) (answered : A → PartsOf → Type 0) where
  -- a kernel of these parts has these books, which it was closed with, over what its accounts and looks were; of so many of its processes, all new, the plan was made, and each answer came of a work by one of its processes
  abbrev pub AreOfKernel : PartsOf → Leading → ℕ → Closed P A → Type 0
  AreOfKernel parts leads count c = ((accounts : List AccountOf) × (looks : List (LookOf Entry)) × AreClosed parts accounts looks c.books.ledger c.books.flight.items)
      × IsPlannedAnew planned c.plan parts leads count × All (λ a. answered a parts) c.answers.items

  -- plan, answers and books are of one kernel, made by this configuration, whose channels come back
  abbrev pub AreOfOneKernel : Config → ℕ → Closed P A → Type 0
  AreOfOneKernel config count c = (parts : PartsOf) × AreMadeBy config MAX_WORKERS GENERATIONS parts × (parts.comes_back ≡ true) × AreOfKernel parts (LeadsToPlace parts) count c
