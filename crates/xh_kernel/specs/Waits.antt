-- Calls of which each is several entries of histories: those that ask one place after another, or look again and again.
use Rattle.std.specs.Prelude.{◌≡◌, ◌⊎◌, ℕ, zero, suc, ◌<◌, List, None, Some, Result, Err, MatchResult}
use Rattle.xh_core.specs.declared.refused.Refused.{Refused}
use Rattle.xh_core.specs.declared.refused.Refused.TheVariants.{Full, NoRecord, NoSpace}
use Rattle.xh_calls.specs.Calls.{Spawns}
use Rattle.xh_calls.specs.declared.call.Call.TheVariants.{Spawn}
use Rattle.xh_calls.specs.Leading.{Leading}
use Rattle.xh_calls.specs.Parts.{PartsOf}
use Rattle.xh_kernel.specs.Accounts.{AccountOf, IsStill}
use Rattle.xh_kernel.specs.Calls.{Calls}
use Rattle.xh_model.specs.declared.limits.TheConstants.{PLACES}

-- ---- spawn

-- the worker asked the first k places in their order, and none could start one
abbrev pub AskedAll : PartsOf → Leading → ℕ → AccountOf → AccountOf → Type 0
AskedAll parts leads zero old new = new ≡ old
AskedAll parts leads (suc k) old new = (mid : AccountOf) × AskedAll parts leads k old mid × Calls leads k (Spawn None) IsStill (λ from to. Spawns parts.generations from to None) mid new

-- the answer is that of the first place that could start a process, or none of them could
abbrev pub SpawnsAt : PartsOf → Leading → AccountOf → AccountOf → Result ℕ Refused → Type 0
SpawnsAt parts leads old new result = MatchResult result
    (λ p. (k : ℕ) × (mid : AccountOf) × (k < PLACES) × AskedAll parts leads k old mid × Calls leads k (Spawn (Some p)) IsStill (λ from to. Spawns parts.generations from to (Some p)) mid new)
    (λ _. AskedAll parts leads PLACES old new)

-- ---- waiting

-- the worker made the call n times
abbrev pub Repeats : (AccountOf → AccountOf → Type 0) → ℕ → AccountOf → AccountOf → Type 0
Repeats Did zero old new = new ≡ old
Repeats Did (suc n) old new = (mid : AccountOf) × Repeats Did n old mid × Did mid new

-- it made the call as often as it was in vain, as its answer says, and then once more, by its answer
abbrev pub AtLastOf : {A : Type 0} → (Result A Refused → AccountOf → AccountOf → Type 0) → (Result A Refused → Type 0) → Result A Refused → AccountOf → AccountOf → Type 0
AtLastOf {A} Did IsVain result old new = (n : ℕ) × (mid : AccountOf) × Repeats (λ from to. (vain : Result A Refused) × IsVain vain × Did vain from to) n old mid × Did result mid new

-- where a call in vain is answered `vain`
abbrev pub AtLast : {A : Type 0} → (Result A Refused → AccountOf → AccountOf → Type 0) → Result A Refused → Result A Refused → AccountOf → AccountOf → Type 0
AtLast Did vain = AtLastOf Did (λ answer. answer ≡ vain)

-- what a give in vain is answered: there is no room, and all blocks came back, in the order given
abbrev pub no_room : List ℕ → Result ℕ Refused
no_room given = Err (Full (record { items = given }))

-- what a call in vain for memory is answered: no record was free, or no space
abbrev pub IsNoMemory : {A : Type 0} → Result A Refused → Type 0
IsNoMemory answer = (answer ≡ Err NoRecord) ⊎ (answer ≡ Err NoSpace)
