-- What the commands share: what each answers, and what the tables of refusals are over.
use Rattle.std.specs.Prelude.{◌≡◌, ℕ, true, cond, List, [], ◌∷◌, Option, Some, None, Result, Err, map, unwrap_or}
use Rattle.xh_model.specs.declared.limits.TheConstants.{DIRECTIONS}
use Rattle.xh_model.specs.declared.event.Holder.TheVariants.{Process}
use Rattle.xh_model.specs.declared.event.Event.TheVariants.{Pass, Accept}
use Rattle.xh_model.specs.Store.{Store, after, holds, len}
use Rattle.xh_core.specs.declared.block.Block.{Block}
use Rattle.xh_core.specs.declared.header.Header.{Header}
use Rattle.xh_core.specs.declared.header.Kind.{Kind}
use Rattle.xh_core.specs.declared.header.Kind.TheVariants.{Data, End}
use Rattle.xh_core.specs.declared.refused.Refused.{Refused}
use Rattle.xh_core.specs.Statuses.{is_running}
use Rattle.xh_serial.specs.Machine.{Machine, end_of, place, is_current}

-- what a command answers, and the machine after it
abbrev pub Answer : Type 0 → Type 0
Answer A = Result A Refused × Machine

-- a refused command changes nothing
abbrev pub answered : {A : Type 0} → Option Refused → Machine → Answer A → Answer A
answered None m done = done
answered (Some refused) m done = (Err refused, m)

-- the process is the latest of its place, and runs
abbrev pub IsRunning : Machine → ℕ → Type 0
IsRunning m p = (is_current m p ≡ true) × (is_running (place m.places p).status ≡ true)

-- a record with a direction toward it is an endpoint
abbrev pub kind_toward : Option ℕ → Kind
kind_toward None = Data
kind_toward (Some d) = End

-- what stands at a record: the length and kind of the block that the process holds there
abbrev pub header_found : Machine → ℕ → ℕ → Option Header
header_found m p r = cond (holds m.store (Process p) r) (Some (record { len = len m.store r; kind = kind_toward (end_of m r) })) None

-- the direction toward the endpoint e
abbrev pub toward : Machine → ℕ → ℕ
toward m e = unwrap_or (end_of m e) DIRECTIONS

-- ---- several records

-- records as blocks, each with its length
abbrev pub described : Store → List ℕ → List Block
described s rs = map (λ r. record { rec = r; len = len s r }) rs

-- p passes each of the records to a direction
abbrev pub pass_all : ℕ → ℕ → List ℕ → Store → Store
pass_all p d [] s = s
pass_all p d (r ∷ rs) s = pass_all p d rs (after (Pass p r d) s)

-- p accepts each of the records, which are in flight on d
abbrev pub accept_all : ℕ → ℕ → List ℕ → Store → Store
accept_all p d [] s = s
accept_all p d (r ∷ rs) s = accept_all p d rs (after (Accept p r d) s)

abbrev pub accept_from : ℕ → Option ℕ → List ℕ → Store → Store
accept_from p None rs s = s
accept_from p (Some d) rs s = accept_all p d rs s
