-- The rule of a line's table: the line at home is as the two sides' accounts say.
-- One seat owns the account of a side, one at most holds the line, and what a seat was told is no more than the side did.
use Rattle.std.specs.Prelude.{◌≡◌, ◌≢◌, ◌⊎◌, ℕ, zero, suc, ◌-◌, ◌≤◌, ◌==◌, true, false, ◌||◌, List, [], ◌∷◌, ◌++◌, length, take, Option, Some, None}
use mathlib.Core.Option.{none, some}
use mathlib.Core.Option as maybe
use lib.ListN.{get_elem?}
use Rattle.atomic_table.specs.Seated.{TableId}
use Rattle.atomic_table.specs.Table.{State, Step, Me}
use Rattle.xh_channel.specs.declared.counts.Counts.{Counts}
use Rattle.xh_channel.specs.declared.line_end.LineEnd.{LineEnd}
use Rattle.xh_channel.specs.declared.line_rule.LineAccount.{LineAccount}
use Rattle.xh_channel.specs.declared.line_rule.LinePart.{LinePart}
use Rattle.xh_channel.specs.declared.message.Message.{Message}
use Rattle.xh_channel.specs.LineSeats.{LineView}
use Rattle.xh_channel.specs.Lines.{Lined, line_end_of, no_counts, waiting}
use Rattle.xh_channel.specs.Directions.{WaitsAfter}

-- of side 0, or of side 1
abbrev pub by : {X : Type 0} → ℕ → X → X → X
by zero low high = low
by (suc _) low high = high

abbrev pub no_account : LineAccount
no_account = record { rows = []; depth = 0; state = 0; sent = []; got = []; shut = false }

abbrev pub counts_in : LineAccount → Counts
counts_in a = record { put = length a.sent; taken = length a.got; shut = a.shut }

-- so much was told of a side, which did that and may have done more
abbrev pub IsTold : Counts → LineAccount → Type 0
IsTold told a = (told.put ≤ length a.sent) × (told.taken ≤ length a.got) × (told.shut ≡ true → a.shut ≡ true)

-- an account goes on: no less was put and taken, and what was shut is
abbrev pub Grows : LineAccount → LineAccount → Type 0
Grows a b = (length a.sent ≤ length b.sent) × (length a.got ≤ length b.got) × (a.shut ≡ true → b.shut ≡ true)

-- an end of the line is as its own account and its peer's say
pub record IsEndBy (line : Lined) (end : LineEnd) (own peer : LineAccount) : Type 0 where
  pub rows : line.rows ≡ own.rows
  pub depth : line.depth ≡ own.depth
  pub state : end.state ≡ own.state
  pub counts : end.counts ≡ counts_in own
  pub waits : WaitsAfter peer.sent own.got (waiting end)

-- what lies in the slot is as the accounts of side 0 and of side 1 say
abbrev pub Lies : Option Lined → LineAccount → LineAccount → Type 0
Lies None low high = (low ≡ no_account) × (high ≡ no_account)
Lies (Some line) low high = IsEndBy line line.left low high × IsEndBy line line.right high low

-- the same by the accounts of a side and of its peer
abbrev pub LiesFor : ℕ → Option Lined → LineAccount → LineAccount → Type 0
LiesFor side line own peer = Lies line (by side own peer) (by side peer own)

-- the seats that own the accounts, the one that holds the line (0 for none, else its number plus 1), and the accounts
pub record Truth : Type 0 where
  pub low_seat : ℕ
  pub high_seat : ℕ
  pub holder : ℕ
  pub low : LineAccount
  pub high : LineAccount

abbrev pub IsHome : Truth → List ℕ → List (maybe.Option (Option Lined)) → Type 0
IsHome t words homes = (others : List ℕ) × (line : Option Lined) × (words ≡ 0 ∷ others) × (homes ≡ some line ∷ []) × (t.holder ≡ 0) × Lies line t.low t.high

abbrev pub IsOut : Truth → List ℕ → List (maybe.Option (Option Lined)) → Type 0
IsOut t words homes = (n : ℕ) × (others : List ℕ) × (side : ℕ) × (words ≡ suc n ∷ others) × (homes ≡ none ∷ []) × (t.holder ≡ suc (by side t.low_seat t.high_seat))

-- the seat owns the account of its side, and where it owns both, that of its peer
pub record OwnsSide (t : Truth) (id : ℕ) (v : LinePart) : Type 0 where
  pub seat : by v.side t.low_seat t.high_seat ≡ id
  pub own : by v.side t.low t.high ≡ v.own
  pub holds : v.holds ≡ (t.holder == suc id)
  pub knows : v.holds ≡ true → by v.side t.high t.low ≡ v.peer
  pub both : v.both ≡ true → (by v.side t.high_seat t.low_seat ≡ id) × (by v.side t.high t.low ≡ v.peer)

abbrev pub IsTrueOf : Truth → ℕ → LinePart → Type 0
IsTrueOf t id v = (v.owns ≡ true → OwnsSide t id v) × IsTold v.told (by v.side t.high t.low) × IsTold v.peer_told (by v.side t.low t.high)

abbrev pub IsKeptLine : State (Option Lined) LinePart → Type 0
IsKeptLine s = (t : Truth) × (IsHome t s.words s.homes ⊎ IsOut t s.words s.homes) × ((id : ℕ) (v : LinePart) → get_elem? s.views id ≡ some v → IsTrueOf t id v)

-- the seat of both sides, which did nothing
abbrev pub both_sides : LinePart
both_sides = record { side = 0; owns = true; both = true; holds = false; own = no_account; peer = no_account; told = no_counts; peer_told = no_counts }

abbrev pub no_part : LinePart
no_part = record both_sides { owns = false; both = false }

abbrev pub low_side : LinePart → LinePart
low_side v = record v { both = false }

abbrev pub high_side : LinePart → LinePart
high_side v = record { side = 1; owns = true; both = false; holds = false; own = v.peer; peer = v.own; told = v.peer_told; peer_told = v.told }

abbrev pub joined_sides : LinePart → LinePart → LinePart
joined_sides v w = record v { both = true; peer = w.own; peer_told = w.told }

abbrev pub holding : LinePart → LineAccount → LinePart
holding v peer = record v { holds = true; peer = peer }

-- the side's account by the line that the seat gives back
abbrev pub own_by : LinePart → Lined → LineAccount
own_by v line = record {
  rows = line.rows;
  depth = line.depth;
  state = (line_end_of line v.side).state;
  sent = v.peer.got ++ waiting (line_end_of line (1 - v.side));
  got = take (line_end_of line v.side).counts.taken v.peer.sent;
  shut = (line_end_of line v.side).counts.shut;
}

-- its peer's, which put and took nothing meanwhile
abbrev pub peer_by : LinePart → Lined → LineAccount
peer_by v line = record v.peer { rows = line.rows; depth = line.depth; state = (line_end_of line (1 - v.side)).state }

-- it gave the line back, and has seen whether the peer is shut
abbrev pub settled_by : LinePart → Option Lined → LinePart
settled_by v None = v
settled_by v (Some line) = record v { holds = false; own = own_by v line; peer = peer_by v line; told = record v.told { shut = v.told.shut || v.peer.shut } }

abbrev pub settled_part : LinePart → List (ℕ × Option Lined) → LinePart
settled_part v [] = v
settled_part v (x ∷ xs) = settled_by v x.1

-- the line is as the accounts say that the seat has by it: its own goes on, and its peer's stays or is its own too
abbrev pub IsSettled : LinePart → Lined → Type 0
IsSettled v line = LiesFor v.side (Some line) (own_by v line) (peer_by v line) × Grows v.own (own_by v line) × ((peer_by v line ≡ v.peer) ⊎ (v.both ≡ true)) × IsTold v.told v.peer

-- what the one side took is a beginning of what the other put
abbrev pub WasTaken : LineAccount → LineAccount → Type 0
WasTaken from to = (items : List Message) × WaitsAfter from.sent to.got items

-- the seat has taken the line, and knows both accounts
abbrev pub IsLocked : Me (Option Lined) LinePart → Me (Option Lined) LinePart → Type 0
IsLocked me me' = (line : Option Lined) × (peer : LineAccount) × (me' ≡ (holding me.0 peer, (0, line) ∷ me.1)) × LiesFor me.0.side line me.0.own peer
    × IsTold me.0.told peer × (me.0.both ≡ true → peer ≡ me.0.peer)

-- it took the line, or found it out
abbrev pub Locked : Step (Option Lined) → Me (Option Lined) LinePart → ℕ → Me (Option Lined) LinePart → Type 0
Locked st me n me' = (n ≡ 0 → IsLocked me me') × (n ≢ 0 → me' ≡ me)

abbrev pub Settled : Step (Option Lined) → Me (Option Lined) LinePart → ℕ → Me (Option Lined) LinePart → Type 0
Settled st me n me' = me' ≡ (settled_part me.0 me.1, [])

abbrev pub Compared : Step (Option Lined) → Me (Option Lined) LinePart → ℕ → Me (Option Lined) LinePart → Type 0
Compared st me n me' = (me' ≡ (record me.0 { told = counts_in me.0.peer; peer_told = counts_in me.0.own }, me.1))
    × IsTold me.0.told me.0.peer × IsTold me.0.peer_told me.0.own × WasTaken me.0.own me.0.peer × WasTaken me.0.peer me.0.own

-- what a seat finds when it takes the line
pub record Found (v : LinePart) (peer : LineAccount) (line : Lined) : Type 0 where
  pub few : v.side ≤ 1
  pub lies : LiesFor v.side (Some line) v.own peer
  pub told : IsTold v.told peer

-- the seat is one of the table, which has one slot, and doesn't hold it
pub record IsLineSeat (table seat : TableId) (me : Me (Option Lined) LinePart) (which : ℕ) : Type 0 where
  pub same : seat ≡ table
  pub words : seat.words ≡ 16
  pub slots : seat.slots ≡ 1
  pub idle : me.1 ≡ []
  pub side : me.0.side ≡ which
  pub few : which ≤ 1
  pub owns : me.0.owns ≡ true
  pub one : me.0.both ≡ false
  pub home : me.0.holds ≡ false

-- the seat of both sides, which doesn't hold the line; each end has a handle to the table
pub record IsWholeLine (low high seat : TableId) (me : Me (Option Lined) LinePart) : Type 0 where
  pub left : seat ≡ low
  pub right : seat ≡ high
  pub words : seat.words ≡ 16
  pub slots : seat.slots ≡ 1
  pub idle : me.1 ≡ []
  pub side : me.0.side ≡ 0
  pub owns : me.0.owns ≡ true
  pub both : me.0.both ≡ true
  pub home : me.0.holds ≡ false

-- what contracts see of a seat
abbrev pub line_view : TableId → LinePart → LineView
line_view table v = record {
  table = table;
  side = v.side;
  rows = v.own.rows;
  depth = v.own.depth;
  state = v.own.state;
  sent = v.own.sent;
  got = v.own.got;
  shut = v.own.shut;
  peer_shut = v.told.shut;
  told_put = v.told.put;
  told_taken = v.told.taken;
}
