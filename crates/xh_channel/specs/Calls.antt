-- What the calls on an endpoint do.
use Rattle.std.specs.Prelude.{◌≡◌, ◌⊎◌, ℕ, suc, ◌+◌, ◌-◌, ◌≤◌, Bool, true, false, List, [], ◌∷◌, ◌++◌, length, Option, Some, None, IsSome, is_some, Result, MatchResult}
use Rattle.arrayvec.specs.ArrayVec.{ArrayVec}
use Rattle.xh_model.specs.declared.limits.TheConstants.{MAX_MESSAGES}
use Rattle.xh_model.specs.declared.row.Row.{Row}
use Rattle.xh_model.specs.Direction.{AreNumberedFrom}
use Rattle.xh_model.specs.Rows.{allowed}
use Rattle.xh_channel.specs.declared.message.Message.{Message}
use Rattle.xh_channel.specs.declared.refused.Refused.{Refused}
use Rattle.xh_channel.specs.declared.refused.Refused.TheVariants as refused
use Rattle.xh_channel.specs.declared.unopened.Unopened.{Unopened}
use Rattle.xh_channel.specs.declared.unopened.Unopened.TheVariants as unopened
use Rattle.xh_channel.specs.declared.unsent.Unsent.{Unsent}
use Rattle.xh_channel.specs.declared.unsent.Unsent.TheVariants.{Protocol, PeerClosed, Full}
use Rattle.xh_channel.specs.Endpoint.{EndpointOf}
use Rattle.xh_channel.specs.Directions.{message_number}

-- the state after a message with this tag by this side; without a contract the state stays
abbrev pub next_state : Option (List Row) → ℕ → ℕ → ℕ → Option ℕ
next_state None state tag side = Some state
next_state (Some rows) state tag side = allowed rows state tag side

-- it saw at most that the peer is shut
abbrev pub OnlySaw : EndpointOf → EndpointOf → Type 0
OnlySaw old new = (new ≡ record old { peer_shut = new.peer_shut }) × (old.peer_shut ≡ true → new.peer_shut ≡ true)

-- why no channel was opened: no number with a pair of this depth was found free, or a count of handles ran out. OutOfMemory comes where numbers come back
abbrev pub IsUnopened : ℕ → Bool → Unopened → Type 0
IsUnopened depth comes_back (unopened.NoChannel taken) = taken.depth ≡ depth
IsUnopened depth comes_back (unopened.OutOfMemory taken) = (taken.depth ≡ depth) × (comes_back ≡ true)
IsUnopened depth comes_back (unopened.NoHandle _) = Unit {0}

-- ---- put

-- why nothing was sent. Protocol: the contract doesn't allow the message, and else it does. PeerClosed: the peer was seen shut.
-- Full: it was seen open, and the depth is reached as far as was told, or the direction has carried its last message
abbrev pub Unput : EndpointOf → EndpointOf → ℕ → Unsent → Type 0
Unput old new tag Protocol = next_state old.contract old.state tag old.spot.side ≡ None
Unput old new tag PeerClosed = IsSome (next_state old.contract old.state tag old.spot.side) × (new.peer_shut ≡ true)
Unput old new tag Full = IsSome (next_state old.contract old.state tag old.spot.side) × (old.peer_shut ≡ false) × (new.peer_shut ≡ false)
    × ((old.told_taken + old.depth ≤ length old.sent) ⊎ (length old.sent ≡ MAX_MESSAGES))

-- A put. The peer was seen open, and the message with the next number went to the back of what was sent, which is numbered, and the contract moved the state.
-- Or why not, and then it leaves nothing behind, or one message that only the shut peer can find.
abbrev pub EndpointPuts : ℕ → ArrayVec ℕ → Result ℕ Unsent → EndpointOf → EndpointOf → Type 0
EndpointPuts tag blocks result old new =
    let m : ℕ → Message = λ n. record { no = n; tag = tag; blocks = blocks } in
    MatchResult result (λ n. (n ≡ suc (length old.sent)) × (old.peer_shut ≡ false) × (new ≡ record old { sent = old.sent ++ m n ∷ []; pushed = old.pushed ++ m n ∷ []; state = new.state })
    × AreNumberedFrom message_number 0 new.sent × (next_state old.contract old.state tag old.spot.side ≡ Some new.state))
    (λ u. Unput old new tag u × OnlySaw (record old { pushed = new.pushed }) new
    × ((new.pushed ≡ old.pushed) ⊎ ((new.pushed ≡ old.pushed ++ m (suc (length old.sent)) ∷ []) × (new.peer_shut ≡ true))))

-- ---- take

-- why nothing was taken, where it took as many messages as it was told were put: the peer was seen shut, or it was seen open
abbrev pub Untaken : EndpointOf → EndpointOf → Refused → Type 0
Untaken old new (refused.PeerClosed back) = (back.items ≡ []) × (old.told_put ≤ length old.got) × (new.peer_shut ≡ true)
Untaken old new refused.Empty = (old.told_put ≤ length old.got) × (old.peer_shut ≡ false) × (new.peer_shut ≡ false)
Untaken old new _ = ⊥

-- A take. The message comes after what was taken, which is numbered, and the contract moved the state; with a contract its number is at most 2^62 - 1. Or why not.
abbrev pub EndpointTakes : Result Message Refused → EndpointOf → EndpointOf → Type 0
EndpointTakes result old new = MatchResult result
    (λ m. (m.no ≡ suc (length old.got)) × OnlySaw (record old { got = old.got ++ m ∷ []; state = new.state }) new × AreNumberedFrom message_number 0 new.got
    × (next_state old.contract old.state m.tag (1 - old.spot.side) ≡ Some new.state) × (is_some old.contract ≡ true → m.no ≤ MAX_MESSAGES))
    (λ refused. Untaken old new refused × OnlySaw old new)

-- ---- shut

abbrev pub EndpointShuts : EndpointOf → EndpointOf → Type 0
EndpointShuts old new = OnlySaw (record old { shut = true }) new
