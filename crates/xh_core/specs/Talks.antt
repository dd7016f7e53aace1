-- Two ends that talk under a contract: which turn can be done, and what it leaves.
use Rattle.std.specs.Prelude.{◌≡◌, ◌⊎◌, ℕ, zero, suc, ◌-◌, ◌<◌, ◌&&◌, Bool, cond, List, [], ◌∷◌, ◌++◌, drop, Some, is_some, unwrap_or, length, nat_lt, slice_get, slice_index_or}
use Rattle.xh_model.specs.declared.limits.TheConstants.{MAX_DEPTH}
use Rattle.xh_model.specs.declared.row.Row.{Row}
use Rattle.xh_model.specs.declared.event.Outcome.{Outcome}
use Rattle.xh_model.specs.declared.event.Outcome.TheVariants.{Done, Refused}
use Rattle.xh_model.specs.Rows.{allowed, row_at, InStep, IsFrontAllowed}
use Rattle.xh_core.specs.declared.talk_end.TalkEnd.{TalkEnd}
use Rattle.xh_core.specs.declared.turn.Turn.{Turn}
use Rattle.xh_core.specs.declared.turn.Turn.TheVariants.{Put, Take}

-- the contract, the end 0 on the left and the end 1 on the right
pub record Talked : Type 0 where
  pub rows : List Row
  pub left : TalkEnd
  pub right : TalkEnd

-- the end of a side
abbrev pub side_of_talk : Talked → ℕ → TalkEnd
side_of_talk talk zero = talk.left
side_of_talk talk (suc _) = talk.right

-- the tags on their way to this end, the front one first
abbrev pub waiting : TalkEnd → List ℕ
waiting end = end.waiting.items

abbrev pub end_with : ℕ → List ℕ → TalkEnd
end_with at tags = record { state = at; waiting = record { items = tags } }

-- a talk by the end of this side and the other one, its peer
abbrev pub talk_by : List Row → ℕ → TalkEnd → TalkEnd → Talked
talk_by rows zero own peer = record { rows = rows; left = own; right = peer }
talk_by rows (suc _) own peer = record { rows = rows; left = peer; right = own }

-- both ends are in the first row's state, and nothing waits
abbrev pub new_talk : List Row → Talked
new_talk rows = record { rows = rows; left = end_with (row_at rows 0).state []; right = end_with (row_at rows 0).state [] }

-- the state after a message that this side puts; where none is allowed it stays
abbrev pub moved : List Row → ℕ → ℕ → ℕ → ℕ
moved rows state tag side = unwrap_or (allowed rows state tag side) state

-- an end puts what its state allows, where there is room toward its peer
abbrev pub can_put : List Row → ℕ → ℕ → TalkEnd → TalkEnd → Bool
can_put rows side tag own peer = is_some (allowed rows own.state tag side) && nat_lt (length (waiting peer)) MAX_DEPTH

-- an end takes where something waits for it
abbrev pub can_take : TalkEnd → Bool
can_take own = nat_lt 0 (length (waiting own))

-- what a put leaves: the putting end moves, and the tag is at the back toward its peer
abbrev pub after_put : List Row → ℕ → ℕ → TalkEnd → TalkEnd
after_put rows side tag own = end_with (moved rows own.state tag side) (waiting own)

abbrev pub with_tag : ℕ → TalkEnd → TalkEnd
with_tag tag peer = end_with peer.state (waiting peer ++ tag ∷ [])

-- what a take leaves: the taking end moves by the tag at the front, which is gone
abbrev pub after_take : List Row → ℕ → TalkEnd → TalkEnd
after_take rows side own = end_with (moved rows own.state (slice_index_or (waiting own) 0 0) (1 - side)) (drop 1 (waiting own))

-- the condition of a turn
abbrev pub can_turn : Turn → Talked → Bool
can_turn (Put side tag) t = can_put t.rows side tag (side_of_talk t side) (side_of_talk t (1 - side))
can_turn (Take side) t = can_take (side_of_talk t side)

-- the change of a turn
abbrev pub change_talk : Turn → Talked → Talked
change_talk (Put side tag) t = talk_by t.rows side (after_put t.rows side tag (side_of_talk t side)) (with_tag tag (side_of_talk t (1 - side)))
change_talk (Take side) t = talk_by t.rows side (after_take t.rows side (side_of_talk t side)) (side_of_talk t (1 - side))

-- a turn is done exactly where its condition holds; else nothing changes
unfoldable pub talk_after : Turn → Talked → Talked
talk_after turn t = cond (can_turn turn t) (change_talk turn t) t

unfoldable pub turn_outcome : Turn → Talked → Outcome
turn_outcome turn t = cond (can_turn turn t) Done Refused

-- the turns in order
abbrev pub talk_after_all : List Turn → Talked → Talked
talk_after_all [] t = t
talk_after_all (turn ∷ turns) t = talk_after_all turns (talk_after turn t)

-- whose turn it is
abbrev pub side_of : Turn → ℕ
side_of (Put side tag) = side
side_of (Take side) = side

-- each turn is of side 0 or 1
abbrev pub AreSided : List Turn → Type 0
AreSided turns = (i : ℕ) (turn : Turn) → slice_get turns i ≡ Some turn → side_of turn < 2

abbrev pub AreInStep : List Row → ℕ → TalkEnd → TalkEnd → Type 0
AreInStep rows side own peer = InStep rows side own.state (waiting own) peer.state (waiting peer)

-- Side 0 is in `state`, and `tags` are on their way to it; side 1 is in `state'`, and `tags'` are on their way to that one:
-- each front message is one that its receiving end allows, and messages wait in one direction at most
abbrev pub AreOrderly : List Row → ℕ → List ℕ → ℕ → List ℕ → Type 0
AreOrderly rows state tags state' tags' = IsFrontAllowed rows 0 state tags × IsFrontAllowed rows 1 state' tags' × ((tags ≡ []) ⊎ (tags' ≡ []))

abbrev pub IsOrderly : Talked → Type 0
IsOrderly t = AreOrderly t.rows t.left.state (waiting t.left) t.right.state (waiting t.right)
