-- Blocks and endpoints as values: how calls name them to the kernel, and how its answers are shown.
use Rattle.std.specs.Prelude.{◌≡◌, ℕ, ◌==◌, if◌then◌else◌, Bool, true, List, [], ◌∷◌, length, map, filter, min, take, Option, Some, None, Result, Ok, Err}
use Rattle.std.specs.List.{list_any}
use Rattle.std.specs.Result.{result_map_both}
use Rattle.xh_calls.specs.declared.several.AnsweredAt.{AnsweredAt}
use Rattle.xh_core.specs.declared.block.Block.{Block as Named}
use Rattle.xh_core.specs.declared.header.Kind.TheVariants as kind
use Rattle.xh_core.specs.declared.refused.Refused.{Refused}
use Rattle.xh_core.specs.declared.refused.Refused.TheVariants as refused
use Rattle.xh_heap.specs.declared.values.Answered.{Answered}
use Rattle.xh_heap.specs.declared.values.Block.{Block}
use Rattle.xh_heap.specs.declared.values.End.{End}
use Rattle.xh_heap.specs.declared.values.Item.{Item}
use Rattle.xh_heap.specs.declared.values.Item.TheVariants as item
use Rattle.xh_heap.specs.declared.values.Message.{Message}
use Rattle.xh_heap.specs.declared.values.Returned.{Returned}
use Rattle.xh_heap.specs.declared.values.TheConstants.{NO_RECORD, TOO_MANY_ENDS}
use Rattle.xh_kernel.specs.Accounts.{AccountOf}
use Rattle.xh_place.specs.declared.got.Got.{Got}
use Rattle.xh_place.specs.declared.got.Got.TheVariants as got
use Rattle.xh_place.specs.declared.got.Taken.{Taken}

-- the record that a value names to a process; where it is another's, one that no arena has
abbrev pub rec_at : Block → ℕ → ℕ
rec_at b p = if b.owner == p then b.rec else NO_RECORD

abbrev pub end_at : End → ℕ → ℕ
end_at e p = if e.owner == p then e.rec else NO_RECORD

-- what is missing names nothing
abbrev pub item_at : ℕ → Item → ℕ
item_at p (item.Block b) = rec_at b p
item_at p (item.End e) = end_at e p
item_at p item.Missing = NO_RECORD

-- an end, and what is given by it
abbrev pub gift : End → List Item → ℕ → ℕ × List ℕ
gift e items p = (end_at e p, map (item_at p) items)

-- ends that are too many as well as those that would be
abbrev pub ends_at : {E : Type 0} → (E → End) → List E → ℕ → List ℕ
ends_at shows ends p = map (λ e. end_at (shows e) p) (take (min TOO_MANY_ENDS (length ends)) ends)

-- ---- what a process is shown

-- how many bytes it had when it was made, taken or last cut
abbrev pub len_of : Block → ℕ
len_of b = b.len

abbrev pub block_of : ℕ → Named → Block
block_of p b = record { rec = b.rec; owner = p; len = b.len }

abbrev pub end_of : ℕ → Named → End
end_of p b = record { rec = b.rec; owner = p }

-- the ends of a channel, of two processes
abbrev pub ends_of : ℕ → ℕ → Named × Named → End × End
ends_of p q ends = (end_of p ends.0, end_of q ends.1)

abbrev pub item_of : ℕ → Got → Item
item_of p (got.Here b kind.Data) = item.Block (block_of p b)
item_of p (got.Here b kind.End) = item.End (end_of p b)
item_of p (got.Missing rec word) = item.Missing

abbrev pub message_of : ℕ → Taken → Message
message_of p t = record { no = t.no; tag = t.tag; items = record { items = map (item_of p) t.blocks.items } }

abbrev pub answered_of : ℕ → AnsweredAt → Answered
answered_of p a = record { at = a.at; answer = result_map_both (message_of p) (λ why. why) a.answer }

-- the call had an answer, which is shown so; a refusal is shown as it is
abbrev pub Answers : {A B : Type 0} → (Result A Refused → AccountOf → AccountOf → Type 0) → (A → B) → Result B Refused → AccountOf → AccountOf → Type 0
Answers {A} Did show result old new = (told : Result A Refused) × (result ≡ result_map_both show (λ why. why) told) × Did told old new

-- the call cut a block in two, which are the one that was there and the answer; or both are as they were
abbrev pub Cuts : ℕ → (Result (Named × Named) Refused → AccountOf → AccountOf → Type 0) → Block → Block → Result Block Refused → AccountOf → AccountOf → Type 0
Cuts p Did block cut (Ok tail) old new = (told : Named × Named) × (cut ≡ block_of p told.0) × (tail ≡ block_of p told.1) × Did (Ok told) old new
Cuts p Did block cut (Err why) old new = (cut ≡ block) × Did (Err why) old new

-- what a message has first
abbrev pub block_in : List Item → Result Block Refused
block_in [] = Err refused.NotOwned
block_in (item.Block b ∷ rest) = Ok b
block_in (item.End e ∷ rest) = Err refused.NotData
block_in (item.Missing ∷ rest) = Err refused.NotOwned

abbrev pub end_in : List Item → Result End Refused
end_in [] = Err refused.NotOwned
end_in (item.Block b ∷ rest) = Err refused.NotEndpoint
end_in (item.End e ∷ rest) = Ok e
end_in (item.Missing ∷ rest) = Err refused.NotOwned

-- ---- what a refused call hands back

-- the answer without it
abbrev pub plain : {A V : Type 0} → Result A (Returned V) → Result A Refused
plain (Ok a) = Ok a
plain (Err returned) = Err returned.why

-- whether a record that was given came back: it did unless others are named
abbrev pub is_back : Refused → ℕ → Bool
is_back (refused.Full back) r = list_any (λ b. b == r) back.items
is_back (refused.PeerClosed back) r = list_any (λ b. b == r) back.items
is_back (refused.Protocol back) r = list_any (λ b. b == r) back.items
is_back _ r = true

abbrev pub items_back : ℕ → Refused → List Item → List Item
items_back p why = filter (λ i. is_back why (item_at p i))

abbrev pub block_back : ℕ → Refused → Block → Option Block
block_back p why b = if is_back why (rec_at b p) then Some b else None

abbrev pub end_came : ℕ → Refused → End → Option End
end_came p why e = if is_back why (end_at e p) then Some e else None

-- an end is gone though blocks that came with it are left
abbrev pub end_back : Refused → End → Option End
end_back (refused.Unfinished left) e = None
end_back _ e = Some e
