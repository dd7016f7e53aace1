-- A channel with a contract, as it is lent under its lock.
use Rattle.std.specs.Prelude.{◌≡◌, ◌⊎◌, ℕ, zero, suc, ◌+◌, ◌-◌, ◌≤◌, true, false, List, [], ◌∷◌, ◌++◌, length, map, Some, None, IsSome, Result, MatchResult}
use Rattle.arrayvec.specs.ArrayVec.{ArrayVec}
use Rattle.xh_model.specs.declared.limits.TheConstants.{MAX_DEPTH, MAX_MESSAGES}
use Rattle.xh_model.specs.declared.row.Row.{Row}
use Rattle.xh_model.specs.Direction.{AreNumberedFrom}
use Rattle.xh_model.specs.Rows.{allowed, row_at, IsValid, InStep}
use Rattle.xh_core.specs.Talks.{AreOrderly}
use Rattle.xh_channel.specs.declared.counts.Counts.{Counts}
use Rattle.xh_channel.specs.declared.message.Message.{Message}
use Rattle.xh_channel.specs.declared.line_end.LineEnd.{LineEnd}
use Rattle.xh_channel.specs.declared.refused.Refused.{Refused}
use Rattle.xh_channel.specs.declared.refused.Refused.TheVariants as refused
use Rattle.xh_channel.specs.declared.unsent.Unsent.{Unsent}
use Rattle.xh_channel.specs.declared.unsent.Unsent.TheVariants.{Protocol, PeerClosed, Full}
use Rattle.xh_channel.specs.Directions.{message_number}

abbrev pub no_counts : Counts
no_counts = record { put = 0; taken = 0; shut = false }

abbrev pub one_put : Counts → Counts
one_put c = record c { put = suc c.put }

abbrev pub one_taken : Counts → Counts
one_taken c = record c { taken = suc c.taken }

abbrev pub now_shut : Counts → Counts
now_shut c = record c { shut = true }

-- the messages on their way to this end, the front one first
abbrev pub waiting : LineEnd → List Message
waiting end = end.waiting.items

-- the tags of the messages on their way to this end
abbrev pub tags : LineEnd → List ℕ
tags end = map (λ (m : Message). m.tag) (waiting end)

-- what an end put is what its peer took and then what waits for the peer, numbered on
abbrev pub Follows : LineEnd → LineEnd → Type 0
Follows own peer = (own.counts.put ≡ peer.counts.taken + length (waiting peer)) × AreNumberedFrom message_number peer.counts.taken (waiting peer)

-- why a put by `own` toward `peer` was refused: the state doesn't allow the message, the peer is shut,
-- or as many wait as the depth or the direction has carried its last message
abbrev pub UnputBetween : List Row → ℕ → ℕ → LineEnd → LineEnd → ℕ → Unsent → Type 0
UnputBetween rows depth side own peer t Protocol = allowed rows own.state t side ≡ None
UnputBetween rows depth side own peer t PeerClosed = IsSome (allowed rows own.state t side) × (peer.counts.shut ≡ true)
UnputBetween rows depth side own peer t Full = IsSome (allowed rows own.state t side) × (peer.counts.shut ≡ false)
    × ((length (waiting peer) ≡ depth) ⊎ (own.counts.put ≡ MAX_MESSAGES))

-- a put by `own` toward `peer`, which isn't shut: the message is at the back, and the state of `own` moves by the contract; or why not
abbrev pub PutsBetween : List Row → ℕ → ℕ → LineEnd → LineEnd → LineEnd → LineEnd → ℕ → ArrayVec ℕ → Result ℕ Unsent → Type 0
PutsBetween rows depth side own own' peer peer' t blocks result = MatchResult result
    (λ n. (n ≡ suc own.counts.put) × (own'.counts ≡ one_put own.counts) × (peer.counts.shut ≡ false) × (waiting peer' ≡ waiting peer ++ record { no = n; tag = t; blocks = blocks } ∷ [])
    × (allowed rows own.state t side ≡ Some own'.state))
    (UnputBetween rows depth side own peer t)

-- why a take by `own` was refused: none waits, and `peer` is shut or not
abbrev pub UntakenBetween : LineEnd → LineEnd → Refused → Type 0
UntakenBetween own peer (refused.PeerClosed back) = (back.items ≡ []) × (waiting own ≡ []) × (peer.counts.shut ≡ true)
UntakenBetween own peer refused.Empty = (waiting own ≡ []) × (peer.counts.shut ≡ false)
UntakenBetween own peer _ = ⊥

-- a take by `own`: it gives the front message, which the state of `own` allowed `peer` to put, and that state moves by the contract; or why not
abbrev pub TakesBetween : List Row → ℕ → LineEnd → LineEnd → LineEnd → Result Message Refused → Type 0
TakesBetween rows side own own' peer result = MatchResult result
    (λ m. (m.no ≡ suc own.counts.taken) × (own'.counts ≡ one_taken own.counts) × (waiting own ≡ m ∷ waiting own') × (allowed rows own.state m.tag (1 - side) ≡ Some own'.state))
    (UntakenBetween own peer)

-- both ends go by the contract together
abbrev pub EndsAreInStep : List Row → ℕ → LineEnd → LineEnd → Type 0
EndsAreInStep rows side own peer = InStep rows side own.state (tags own) peer.state (tags peer)

-- the ends are in step, each direction is in order, and no more messages wait than the depth
pub record IsLine (rows : List Row) (depth : ℕ) (left right : LineEnd) : Type 0 where
  pub some_depth : 1 ≤ depth
  pub most_depth : depth ≤ MAX_DEPTH
  pub few_left : length (waiting left) ≤ depth
  pub few_right : length (waiting right) ≤ depth
  pub left_numbers : left.counts.put ≤ MAX_MESSAGES
  pub right_numbers : right.counts.put ≤ MAX_MESSAGES
  pub to_right : Follows left right
  pub to_left : Follows right left
  pub valid : IsValid rows
  pub step : EndsAreInStep rows 0 left right

-- the contract, the depth, the end of side 0 and the end of side 1
pub record Lined : Type 0 where
  pub rows : List Row
  pub depth : ℕ
  pub left : LineEnd
  pub right : LineEnd

-- the end of a side
abbrev pub line_end_of : Lined → ℕ → LineEnd
line_end_of line zero = line.left
line_end_of line (suc _) = line.right

-- an end in the first state, which has carried nothing
abbrev pub IsFresh : List Row → LineEnd → Type 0
IsFresh rows end = (end.state ≡ (row_at rows 0).state) × (waiting end ≡ []) × (end.counts ≡ no_counts)

abbrev pub IsNewLine : List Row → ℕ → Lined → Type 0
IsNewLine rows depth line = (line.rows ≡ rows) × (line.depth ≡ depth) × IsFresh rows line.left × IsFresh rows line.right

abbrev pub SameRules : Lined → Lined → Type 0
SameRules old new = (new.rows ≡ old.rows) × (new.depth ≡ old.depth)

-- a put by a side, which leaves what waits for it, and of its peer the state and the counts
pub record LinePuts (old new : Lined) (side tag : ℕ) (blocks : ArrayVec ℕ) (result : Result ℕ Unsent) : Type 0 where
  pub put : PutsBetween old.rows old.depth side (line_end_of old side) (line_end_of new side) (line_end_of old (1 - side)) (line_end_of new (1 - side)) tag blocks result
  pub rules : SameRules old new
  pub waits : waiting (line_end_of new side) ≡ waiting (line_end_of old side)
  pub counts : (line_end_of new (1 - side)).counts ≡ (line_end_of old (1 - side)).counts
  pub state : (line_end_of new (1 - side)).state ≡ (line_end_of old (1 - side)).state

-- a take by a side, which leaves its peer
pub record LineTakes (old new : Lined) (side : ℕ) (result : Result Message Refused) : Type 0 where
  pub taken : TakesBetween old.rows side (line_end_of old side) (line_end_of new side) (line_end_of old (1 - side)) result
  pub rules : SameRules old new
  pub peer : line_end_of new (1 - side) ≡ line_end_of old (1 - side)

-- the side is marked as shut, and nothing else changes
pub record LineShuts (old new : Lined) (side : ℕ) : Type 0 where
  pub shut : (line_end_of new side).counts ≡ now_shut (line_end_of old side).counts
  pub rules : SameRules old new
  pub waits : waiting (line_end_of new side) ≡ waiting (line_end_of old side)
  pub state : (line_end_of new side).state ≡ (line_end_of old side).state
  pub peer : line_end_of new (1 - side) ≡ line_end_of old (1 - side)

-- each front message is one that its receiving end allows, and messages wait in one direction at most
abbrev pub IsLineOrderly : Lined → Type 0
IsLineOrderly line = AreOrderly line.rows line.left.state (tags line.left) line.right.state (tags line.right)
