-- What is known of a job's plan.
use Rattle.std.specs.Prelude.{◌≡◌, ℕ, length, List, All, Ok}
use Rattle.xh_calls.specs.Leading.{Leading}
use Rattle.xh_calls.specs.Parts.{PartsOf}
use Rattle.xh_heap.specs.Handles.{HandleOf}
use Rattle.xh_kernel.specs.Accounts.{AccountOf, fresh}
use Rattle.xh_kernel.specs.Waits.{SpawnsAt}

-- it was made of processes of a kernel of these parts, by whose handles before and after that it is known
abbrev pub IsPlanned : {P : Type 0} → (P → PartsOf → List HandleOf → List HandleOf → Type 0) → P → PartsOf → Type 0
IsPlanned planned plan parts = ∥ ((old : List HandleOf) × (new : List HandleOf) × planned plan parts old new) ∥₁

-- the process was started, and has made no call since
abbrev pub IsStarted : PartsOf → Leading → ℕ → AccountOf → Type 0
IsStarted parts leads p account = (before : AccountOf) × SpawnsAt parts leads before account (Ok p)

-- it was started by an account that was new, which has made no other call
abbrev pub IsHired : PartsOf → Leading → ℕ → AccountOf → Type 0
IsHired parts leads p account = (k : ℕ) × SpawnsAt parts leads (fresh parts k) account (Ok p)

-- it was made of so many processes, of which none had made a call, started by accounts that had made none
abbrev pub IsPlannedAnew : {P : Type 0} → (P → PartsOf → List HandleOf → List HandleOf → Type 0) → P → PartsOf → Leading → ℕ → Type 0
IsPlannedAnew planned plan parts leads count = (old : List HandleOf) × (new : List HandleOf) × (length old ≡ count)
    × All (λ h. IsHired parts leads h.number h.account) old × planned plan parts old new
