-- What a worker holds, and what its calls do on its kernel, by the histories of the places.
use Rattle.std.specs.Prelude.{◌≡◌, ◌≢◌, ◌<◌, ◌≤◌, ℕ, min, true, false, List, length, map, Option, Some, None, Result, Ok, Err, MatchResult}
use Rattle.xh_calls.specs.Parts.{PartsOf}
use Rattle.xh_core.specs.declared.block.Block.{Block}
use Rattle.xh_core.specs.declared.refused.Refused.{Refused}
use Rattle.xh_core.specs.declared.refused.Refused.TheVariants.{Empty, NoProcess}
use Rattle.xh_calls.specs.declared.call.Entry.{Entry}
use Rattle.xh_history.specs.Histories.{LookOf}
use Rattle.xh_kernel.specs.Looks.{HasGlanced}
use Rattle.xh_kernel.specs.Accounts.{AccountOf}
use Rattle.xh_calls.specs.Leading.{Leading}
use Rattle.xh_kernel.specs.Endings.{Exits, Kills}
use Rattle.xh_kernel.specs.Did.{DidAlloc, DidClose, DidFree, DidGive, DidRead, DidSplit, DidTake, DidWrite}
use Rattle.xh_kernel.specs.Waits.{AtLast, SpawnsAt}
use Rattle.xh_kernel.specs.Wires.{OpensBoth, Wires}
use Rattle.xh_model.specs.declared.limits.TheConstants.{MAX_BUDGET, PLACES}
use Rattle.xh_place.specs.declared.got.Got.{Got}
use Rattle.xh_place.specs.declared.got.Got.TheVariants.{Here, Missing}
use Rattle.xh_place.specs.declared.got.Taken.{Taken}
use Rattle.xh_session.specs.declared.machine.Received.{Received}
use Rattle.xh_session.specs.Questions.{Question, AnswerTo, Spawn, Open, Wire, Alloc, Split, Read, Write, Give, Take, Free, Close, Exit, Kill, Glance, filled}

-- what a worker has: its account on the kernel, and what it has seen of the glances
pub record WorkerState : Type 0 where
  pub account : AccountOf
  pub look : LookOf Entry

-- ---- a message

-- a block that was got, where it is there
abbrev pub gotten : Got → Option Block
gotten (Here block kind) = Some block
gotten (Missing rec word) = None

-- a message whose blocks were got
abbrev pub gotten_message : Taken → Received
gotten_message message = record { number = message.no; tag = message.tag; blocks = record { items = map gotten message.blocks.items } }

-- what a take answered
abbrev pub gotten_answer : Result Taken Refused → Result Received Refused
gotten_answer (Ok message) = Ok (gotten_message message)
gotten_answer (Err refused) = Err refused

-- ---- a call

module _ (parts : PartsOf) (leads : Leading) where
  -- at each question the call of the kernel was made, in the histories and in the account, and this is what it answered
  abbrev pub Asked : (q : Question) → AnswerTo q → AccountOf → AccountOf → Type 0
  Asked Spawn a old new = SpawnsAt parts leads old new a
  Asked (Open p arena contract) a old new = OpensBoth parts leads p arena contract old new a
  Asked (Wire p q arena contract) a old new = Wires parts leads p q arena contract old new a
  Asked (Alloc p n arena) a old new = DidAlloc parts leads p n arena a old new
  Asked (Split p r at) a old new = DidSplit leads p r at a old new
  Asked (Read p r at len) a old new = (room : List ℕ) × (done : Result (Unit {0}) Refused) × (length room ≡ len) × (a ≡ filled room done) × DidRead leads p r at room done old new
  Asked (Write p r at bytes) a old new = DidWrite leads p r at bytes a old new
  Asked (Give p e tag blocks) a old new = DidGive leads p e tag blocks a old new
  Asked (Take p e false) a old new = (t : Result Taken Refused) × (a ≡ gotten_answer t) × DidTake leads p e t old new
  Asked (Take p e true) a old new = (t : Result Taken Refused) × (a ≡ gotten_answer t) × (a ≢ Err Empty) × AtLast (DidTake leads p e) (Err Empty) t old new
  Asked (Free p r) a old new = DidFree leads p r a old new
  Asked (Close p e) a old new = DidClose leads p e a old new
  Asked (Exit p budget) a old new = Exits leads p (min budget MAX_BUDGET) old new a
  Asked (Kill by victim budget) a old new = Kills leads by victim (min budget MAX_BUDGET) old new a
  Asked (Glance place) a old new = new ≡ old

-- a glance looks once at the place, sees what it shows, and no less than before; no other call looks
abbrev pub IsLookAfter : (q : Question) → AnswerTo q → LookOf Entry → LookOf Entry → Type 0
IsLookAfter (Glance place) a old new =
    MatchResult a (λ g. (place < PLACES) × HasGlanced old place g new) (λ why. (why ≡ NoProcess) × (PLACES ≤ place) × (new ≡ old))
IsLookAfter q a old new = new ≡ old

-- what a worker of a kernel of these parts does at a question
abbrev pub did : PartsOf → Leading → WorkerState → (q : Question) → AnswerTo q → WorkerState → Type 0
did parts leads old q a new = Asked parts leads q a old.account new.account × IsLookAfter q a old.look new.look
