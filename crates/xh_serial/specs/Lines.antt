-- The directions of channels as a list of lines, their contracts, and what becomes of a line.
use Rattle.std.specs.Prelude.{◌≡◌, ℕ, ◌+◌, ◌-◌, ◌/◌, ◌%◌, ◌==◌, ◌||◌, Bool, true, false, cond, List}
use Rattle.std.specs.Prelude.{[], ◌∷◌, ◌++◌, Option, Some, None, length, map, nat_le, slice_set, slice_index_or, unwrap_or}
use Rattle.std.specs.List.{flat_map, remove}
use Rattle.xh_model.specs.declared.limits.TheConstants.{MAX_MESSAGES}
use Rattle.xh_model.specs.declared.row.Row.{Row}
use Rattle.xh_model.specs.Rows.{allowed, row_at}
use Rattle.xh_serial.specs.declared.message.Message.{Message}
use Rattle.xh_serial.specs.declared.line.Line.{Line}

abbrev pub no_line : Line
no_line = record { shut = false; state = 0; put = 0; waiting = record { items = [] } }

-- the line of a direction
abbrev pub line : List Line → ℕ → Line
line lines d = slice_index_or lines d no_line

-- the other direction of a channel
abbrev pub peer : ℕ → ℕ
peer d = cond ((d % 2) == 0) (d + 1) (d - 1)

-- the records in messages, front first
abbrev pub carried : List Message → List ℕ
carried messages = flat_map (λ message. message.blocks.items) messages

abbrev pub tags_of : List Message → List ℕ
tags_of messages = map (λ message. message.tag) messages

-- the records that wait in a direction, if there is one
abbrev pub way_in : List Line → Option ℕ → List ℕ
way_in lines None = []
way_in lines (Some d) = carried (line lines d).waiting.items

-- messages have numbers one after another: the front one has `first`, and the back one `last`
abbrev pub AreNumbered : ℕ → List Message → ℕ → Type 0
AreNumbered first [] last = first ≡ last + 1
AreNumbered first (message ∷ messages) last = (message.no ≡ first) × AreNumbered (first + 1) messages last

-- the messages that wait in a direction have consecutive numbers, up to as many as were ever put
abbrev pub IsNumbered : Line → Type 0
IsNumbered l = (first : ℕ) × AreNumbered first l.waiting.items l.put

-- whether a direction takes no further message, where so many may wait
abbrev pub is_full : ℕ → Line → Bool
is_full depth l = nat_le depth (length l.waiting.items) || nat_le MAX_MESSAGES l.put

-- ---- contracts

-- the contract of a direction's channel
abbrev pub contract_of : List (Option (List Row)) → ℕ → Option (List Row)
contract_of contracts d = slice_index_or contracts (d / 2) None

-- the state in which both ends begin
abbrev pub first_state : Option (List Row) → ℕ
first_state None = 0
first_state (Some rows) = (row_at rows 0).state

-- the state of an end after a message with this tag from this side, if its contract allows it; without a contract the same
abbrev pub next_state : Option (List Row) → ℕ → ℕ → ℕ → Option ℕ
next_state None side state tag = Some state
next_state (Some rows) side state tag = allowed rows state tag side

-- the state after messages with these tags, of which one that is not allowed changes nothing
abbrev pub drained_state : Option (List Row) → ℕ → ℕ → List ℕ → ℕ
drained_state contract side state [] = state
drained_state contract side state (tag ∷ tags) = drained_state contract side (unwrap_or (next_state contract side state tag) state) tags

-- ---- what becomes of a line

-- a new direction
abbrev pub new_line : Option (List Row) → Line
new_line contract = record { shut = false; state = first_state contract; put = 0; waiting = record { items = [] } }

-- the end that puts a message is in its contract's next state
abbrev pub told_line : Option (List Row) → ℕ → ℕ → Line → Line
told_line contract side tag l = record l { state = unwrap_or (next_state contract side l.state tag) l.state }

-- a direction with one more message at its back
abbrev pub put_line : ℕ → List ℕ → Line → Line
put_line tag bs l = record l { put = l.put + 1; waiting = record { items = l.waiting.items ++ record { no = l.put + 1; tag = tag; blocks = record { items = bs } } ∷ [] } }

abbrev pub no_message : Message
no_message = record { no = 0; tag = 0; blocks = record { items = [] } }

-- a direction without its front message, whose end is in its contract's next state
abbrev pub taken_line : Option (List Row) → ℕ → ℕ → Line → Line
taken_line contract side tag l = record l { state = unwrap_or (next_state contract side l.state tag) l.state; waiting = record { items = remove l.waiting.items 0 } }

-- the end that a line leads to is closed, and what waited for it is taken
abbrev pub shut_line : Option (List Row) → ℕ → Line → Line
shut_line contract side l = record l { shut = true; state = drained_state contract side l.state (tags_of l.waiting.items); waiting = record { items = [] } }

abbrev pub shut_in : List (Option (List Row)) → List Line → Option ℕ → List Line
shut_in contracts lines None = lines
shut_in contracts lines (Some d) = slice_set lines d (shut_line (contract_of contracts d) (1 - d % 2) (line lines d))
