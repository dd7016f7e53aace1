-- When a table of rows (state, tag, sending side, next state) is a contract, and how the two ends of a channel go by it.
use Rattle.std.specs.Prelude.{◌≡◌, ℕ, ◌<◌, ◌≤◌, ◌-◌, ◌==◌, ◌&&◌, Bool, cond, List, [], ◌∷◌, ◌⊎◌, Option, Some, None, IfSome, IsSome, length, slice_get, slice_index_or}
use Rattle.std.specs.Option.{option_and_then}
use Rattle.xh_model.specs.declared.row.Row.{Row}
use Rattle.xh_model.specs.declared.limits.TheConstants.{MAX_ROWS, STATES}

-- what is read beyond the last row
abbrev pub no_row : Row
no_row = record { state = 0; tag = 0; side = 0; next = 0 }

-- the row number i, from 0
abbrev pub row_at : List Row → ℕ → Row
row_at rows i = slice_index_or rows i no_row

-- the states are those that there are, and the sides are two
abbrev pub IsRow : Row → Type 0
IsRow row = (row.state < STATES) × (row.side ≤ 1) × (row.next < STATES)

-- a table has some rows and not too many
abbrev pub IsInRange : List Row → Type 0
IsInRange rows = (1 ≤ length rows) × (length rows ≤ MAX_ROWS) × ((i : ℕ) → i < length rows → IsRow (row_at rows i))

-- two rows of one state have one sending side, and not one tag
abbrev pub Agree : Row → Row → Type 0
Agree a b = a.state ≡ b.state → (a.side ≡ b.side) × ¬ (a.tag ≡ b.tag)

-- a table is valid if each two of its rows agree: in each state one side sends, and a tag leads to one state
abbrev pub IsValid : List Row → Type 0
IsValid rows = (i j : ℕ) → i < j → j < length rows → Agree (row_at rows i) (row_at rows j)

-- whether a row is of this state, tag and sending side
abbrev pub fits : ℕ → ℕ → ℕ → Row → Bool
fits state tag side row = (row.state == state) && ((row.tag == tag) && (row.side == side))

-- the state after a message with this tag, put by this side in this state; none where no row allows it
abbrev pub allowed : List Row → ℕ → ℕ → ℕ → Option ℕ
allowed [] state tag side = None
allowed (row ∷ rows) state tag side = cond (fits state tag side row) (Some row.next) (allowed rows state tag side)

-- the state after messages with these tags, all put by this side, where each is allowed in its turn
abbrev pub walk : List Row → ℕ → ℕ → List ℕ → Option ℕ
walk rows side state [] = Some state
walk rows side state (tag ∷ tags) = option_and_then (λ next. walk rows side next tags) (allowed rows state tag side)

-- The two ends of a channel go by the table together: were each to take all that waits for it, both would be in one state; and messages wait for one of them at most.
-- One end is `side`, in `state`, and `tags` are on their way to it; the other is in `state'`, and `tags'` are on their way to that one.
abbrev pub InStep : List Row → ℕ → ℕ → List ℕ → ℕ → List ℕ → Type 0
InStep rows side state tags state' tags' = (walk rows (1 - side) state tags ≡ walk rows side state' tags') × ((tags ≡ []) ⊎ (tags' ≡ []))

-- the message at the front toward the end `side` is one that its state allows the other end to have put
abbrev pub IsFrontAllowed : List Row → ℕ → ℕ → List ℕ → Type 0
IsFrontAllowed rows side state tags = IfSome (slice_get tags 0) (λ tag. IsSome (allowed rows state tag (1 - side)))
