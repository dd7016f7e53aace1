-- What clauses see of a handle, and of its calls.
use Rattle.std.specs.Prelude.{◌≡◌, ℕ, Result, Err}
use Rattle.xh_core.specs.declared.refused.Refused.{Refused}
use Rattle.xh_core.specs.declared.refused.Refused.TheVariants.{Empty}
use Rattle.xh_kernel.specs.Accounts.{AccountOf}
use Rattle.xh_kernel.specs.Waits.{AtLast}

-- its process, and the account that has seen its calls
pub record HandleOf : Type 0 where
  pub number : ℕ
  pub account : AccountOf

-- the handle is still its process's, and by a call of that process its account became what it is
abbrev pub Acts : (ℕ → AccountOf → AccountOf → Type 0) → HandleOf → HandleOf → Type 0
Acts DidCall old new = (new ≡ record old { account = new.account }) × DidCall old.number old.account new.account

-- as that, by a call of what values name to the process
abbrev pub ActsBy : {X : Type 0} → (ℕ → X) → (ℕ → X → AccountOf → AccountOf → Type 0) → HandleOf → HandleOf → Type 0
ActsBy {X} named DidCall old new = (x : X) × (x ≡ named old.number) × Acts (λ p. DidCall p x) old new

-- the call was made as often as it found nothing, and then once more
abbrev pub Awaits : {A : Type 0} → (Result A Refused → AccountOf → AccountOf → Type 0) → Result A Refused → AccountOf → AccountOf → Type 0
Awaits Did = AtLast Did (Err Empty)
