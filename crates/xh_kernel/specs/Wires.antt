-- Opening and wiring in the histories: a channel of which side 0 is of the one process, and side 1 comes to the other.
use Rattle.std.specs.Prelude.{◌≡◌, ◌≢◌, ◌⊎◌, ℕ, ◌*◌, List, [], ◌∷◌, Option, Result, Ok, Err, MatchResult}
use Rattle.xh_core.specs.declared.block.Block.{Block}
use Rattle.xh_core.specs.declared.refused.Refused.{Refused}
use Rattle.xh_core.specs.declared.refused.Refused.TheVariants.{Ended}
use Rattle.xh_model.specs.declared.limits.TheConstants.{END_BYTES}
use Rattle.xh_model.specs.declared.row.Row.{Row}
use Rattle.xh_model.specs.Words.{place_of}
use Rattle.xh_calls.specs.Channels.{OpensChannel}
use Rattle.xh_calls.specs.declared.call.Call.TheVariants as call
use Rattle.xh_calls.specs.declared.wired.Wired.{Wired}
use Rattle.xh_calls.specs.Leading.{Leading}
use Rattle.xh_calls.specs.Parts.{PartsOf}
use Rattle.xh_calls.specs.Wires.{ClosesAgain, OpensToward, ReceivesOr, toward_high}
use Rattle.xh_kernel.specs.Accounts.{AccountOf, HasBack, TakesBytes}
use Rattle.xh_kernel.specs.Calls.{Calls}
use Rattle.xh_kernel.specs.Endings.{LooksFirst}

-- the process opened a channel, and 64 bytes of the arena were taken, by a carve and a cut; or it was refused
abbrev pub OpensBoth : PartsOf → Leading → ℕ → ℕ → Option (List Row) → AccountOf → AccountOf → Result (Block × Block) Refused → Type 0
OpensBoth parts leads p arena contract old new result = Calls leads (place_of p) (call.Open p arena contract result)
    (TakesBytes parts arena (2 * END_BYTES) (arena ∷ arena ∷ []) (λ _. 2 * END_BYTES) result) (λ from to. OpensChannel parts p arena contract from to result) old new

-- the same of a channel whose side 1 is on its way
abbrev pub OpensOne : PartsOf → Leading → ℕ → ℕ → Option (List Row) → AccountOf → AccountOf → Result Wired Refused → Type 0
OpensOne parts leads p arena contract old new result = Calls leads (place_of p) (call.OpenToward p arena contract result)
    (TakesBytes parts arena (2 * END_BYTES) (arena ∷ arena ∷ []) (λ _. 2 * END_BYTES) result) (λ from to. OpensToward parts p arena contract from to result) old new

-- side 1 of the channel came to q, or came too late
abbrev pub ReceivesOne : Leading → (q r channel : ℕ) → AccountOf → AccountOf → Result Block Refused → Type 0
ReceivesOne leads q r channel old new result = (bytes : ℕ)
    × Calls leads (place_of q) (call.Receive q r channel bytes result) (HasBack bytes) (λ from to. ReceivesOr q (toward_high channel) r bytes from to result) old new

-- p closed side 0 again where it still could
abbrev pub ClosesOne : Leading → ℕ → Wired → AccountOf → AccountOf → Type 0
ClosesOne leads p w old new = (bytes : ℕ)
    × Calls leads (place_of p) (call.CloseAgain p w.low.rec w.channel bytes) (HasBack bytes) (λ from to. ClosesAgain p w.channel w.low.rec from to bytes) old new

-- side 1 came to q; or too late, and then p closed side 0 again
abbrev pub HandsOver : Leading → ℕ → ℕ → Wired → AccountOf → AccountOf → Result (Block × Block) Refused → Type 0
HandsOver leads p q w old new result = (mid : AccountOf) × (received : Result Block Refused) × ReceivesOne leads q w.high.rec w.channel old mid received
    × MatchResult received (λ _. (result ≡ Ok (w.low, w.high)) × (new ≡ mid)) (λ _. (result ≡ Err Ended) × ClosesOne leads p w mid new)

-- p opened a channel whose side 1 is on its way, and handed it over; or p could not open one
abbrev pub Connects : PartsOf → Leading → ℕ → ℕ → ℕ → Option (List Row) → AccountOf → AccountOf → Result (Block × Block) Refused → Type 0
Connects parts leads p q arena contract old new result = (mid : AccountOf) × (opened : Result Wired Refused) × OpensOne parts leads p arena contract old mid opened
    × MatchResult opened (λ w. HandsOver leads p q w mid new result) (λ why. (result ≡ Err why) × (new ≡ mid))

-- the worker looked whether p runs, and whether q does; then p opened both sides where p is q, and else connected itself to q
abbrev pub Wires : PartsOf → Leading → ℕ → ℕ → ℕ → Option (List Row) → AccountOf → AccountOf → Result (Block × Block) Refused → Type 0
Wires parts leads p q arena contract old new result = LooksFirst leads p old new result (λ first. LooksFirst leads q first new result (λ second.
    ((p ≡ q) × OpensBoth parts leads p arena contract second new result) ⊎ ((p ≢ q) × Connects parts leads p q arena contract second new result)))
