-- The rule of a direction: what was sent is what was taken and then what waits, numbered from 1. One pass at most may push, and it has the list of what was sent. The same for pops.
-- No pass was told of more than was sent, or of more than was taken.
use Rattle.std.specs.Prelude.{◌≡◌, ℕ, suc, ◌+◌, ◌≤◌, Bool, true, List, [], ◌∷◌, ◌++◌, length}
use mathlib.Core.Option.{some}
use lib.ListN.{get_elem?}
use Rattle.xh_model.specs.Direction.{AreNumberedFrom, IsDirection}
use Rattle.xh_channel.specs.declared.message.Message.{Message}
use Rattle.xh_channel.specs.declared.queue_rule.Role.{Role}

-- a message's number
abbrev pub message_number : Message → ℕ
message_number m = m.no

abbrev pub role : Bool → Bool → List Message → List Message → ℕ → ℕ → Role
role a b sent got put taken = record { pushes = a; pops = b; sent = sent; got = got; told_put = put; told_taken = taken }

abbrev pub FitsQueue : ℕ → ℕ → List Message → List Message → ℕ → Role → Type 0
FitsQueue writer reader sent got port v = (v.pushes ≡ true → (port ≡ writer) × (v.sent ≡ sent)) × (v.pops ≡ true → (port ≡ reader) × (v.got ≡ got))
    × (v.told_put ≤ length sent) × (v.told_taken ≤ length got)

-- what was sent is what was taken and then what waits, numbered from 1
abbrev pub WaitsAfter : List Message → List Message → List Message → Type 0
WaitsAfter = IsDirection message_number

abbrev pub Ordered : List Message → List Role → Type 0
Ordered items views = (writer : ℕ) × (reader : ℕ) × (sent : List Message) × (got : List Message) × WaitsAfter sent got items
    × ((port : ℕ) (v : Role) → get_elem? views port ≡ some v → FitsQueue writer reader sent got port v)

-- what waits was sent after what the other end was said to have taken
abbrev pub WaitsBehind : Role → List Message → Type 0
WaitsBehind v items = v.told_taken + length items ≤ length v.sent

-- what the other end was said to have sent was taken, or waits
abbrev pub WaitsAhead : Role → List Message → Type 0
WaitsAhead v items = v.told_put ≤ length v.got + length items

-- x was pushed at the back, with the next number
abbrev pub Sent : Role → Message → Role → Type 0
Sent v x w = (w ≡ record v { sent = v.sent ++ x ∷ [] }) × AreNumberedFrom message_number 0 (v.sent ++ x ∷ [])

-- x was popped at the front, and its number follows those taken before
abbrev pub Got : Role → Message → Role → Type 0
Got v x w = (w ≡ record v { got = v.got ++ x ∷ [] }) × (x.no ≡ suc (length v.got)) × AreNumberedFrom message_number 0 (v.got ++ x ∷ [])
