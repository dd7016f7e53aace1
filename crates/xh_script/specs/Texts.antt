-- The text of replies, of ledgers and of what is in flight.
use Rattle.std.specs.Prelude.{ℕ, ◌+◌, ◌/◌, ◌%◌, List, [], ◌∷◌, ◌++◌, codes, length, map, nat_lt, if◌then◌else◌, Option, Some, None, slice_index_or}
use Rattle.std.specs.Fmt.{decimal}
use Rattle.xh_core.specs.Refusals.{refusal_number, name_of}
use Rattle.xh_core.specs.declared.ledger.State.{State}
use Rattle.xh_core.specs.declared.ledger.State.TheVariants.{Running, Ending, Ended as EndedState}
use Rattle.xh_core.specs.declared.ledger.ArenaLine.{ArenaLine}
use Rattle.xh_core.specs.declared.ledger.PlaceLine.{PlaceLine}
use Rattle.xh_core.specs.declared.ledger.Ledger.{Ledger}
use Rattle.xh_core.specs.declared.flight.FlightLine.{FlightLine}
use Rattle.xh_core.specs.declared.refused.Refused.{Refused}
use Rattle.xh_core.specs.declared.refused.Refused.TheVariants.{Full, PeerClosed, Unfinished}
use Rattle.xh_script.specs.declared.replies.Reply.{Reply}
use Rattle.xh_script.specs.declared.replies.Reply.TheVariants.{Done, Started, Bytes, Taken, NotGiven, No}
use Rattle.xh_script.specs.declared.replies.NumberedReply.{NumberedReply}

-- ---- lines

-- words, a space ahead of each, and the end of a line
abbrev pub words_text : List (List ℕ) → List ℕ
words_text [] = codes "\n"
words_text (word ∷ words) = codes " " ++ (word ++ words_text words)

-- a line: words with a space between each two
abbrev pub line_text : List ℕ → List (List ℕ) → List ℕ
line_text first words = first ++ words_text words

-- ---- replies

-- a hexadecimal digit
abbrev pub hex_digit : ℕ → ℕ
hex_digit n = if nat_lt n 10 then 48 + n else 87 + n

-- two digits for each byte
abbrev pub hex_text : List ℕ → List ℕ
hex_text [] = []
hex_text (b ∷ bytes) = hex_digit (b / 16) ∷ hex_digit (b % 16) ∷ hex_text bytes

-- the length of a block that was taken, or `-` where it is missing
abbrev pub length_text : Option ℕ → List ℕ
length_text (Some n) = decimal n
length_text None = codes "-"

-- `LINE ok`, and these words
abbrev pub ok_text : ℕ → List (List ℕ) → List ℕ
ok_text line words = line_text (decimal line) (codes "ok" ∷ words)

-- the number behind the name of a refusal, where it has one
abbrev pub count_of : Refused → Option ℕ
count_of (Full back) = Some (length back.items)
count_of (Unfinished left) = Some left
count_of _ = None

-- of a give also behind PeerClosed
abbrev pub give_count_of : Refused → Option ℕ
give_count_of (Full back) = Some (length back.items)
give_count_of (PeerClosed back) = Some (length back.items)
give_count_of (Unfinished left) = Some left
give_count_of _ = None

abbrev pub count_words : Option ℕ → List (List ℕ)
count_words None = []
count_words (Some n) = decimal n ∷ []

-- a line with `no NUMBER NAME`, and the number behind it
abbrev pub refusal_text : List ℕ → Refused → Option ℕ → List ℕ
refusal_text line e count = line_text line (codes "no" ∷ decimal (refusal_number e) ∷ name_of e ∷ count_words count)

-- a command is done, and these numbers tell of it
abbrev pub done : List ℕ → Reply
done numbers = Done (record { items = numbers })

-- the reply to the command of a line
unfoldable pub reply_text : ℕ → Reply → List ℕ
reply_text line (Done numbers) = ok_text line (map decimal numbers.items)
reply_text line (Started n) = ok_text line (decimal n ∷ [])
reply_text line (Bytes bytes) = ok_text line (hex_text bytes.items ∷ [])
reply_text line (Taken n tag lengths) = ok_text line (decimal n ∷ decimal tag ∷ map length_text lengths.items)
reply_text line (NotGiven e) = refusal_text (decimal line) e (give_count_of e)
reply_text line (No e) = refusal_text (decimal line) e (count_of e)

-- the replies in their order
abbrev pub answer_texts : List NumberedReply → List ℕ
answer_texts [] = []
answer_texts (a ∷ answers) = reply_text a.line a.reply ++ answer_texts answers

-- ---- ledgers

abbrev pub state_text : State → List ℕ
state_text Running = codes "running"
state_text Ending = codes "ending"
state_text EndedState = codes "ended"

-- `arena A SIZE OUT HOLES TAKEN BACK`
unfoldable pub arena_text : ℕ → ArenaLine → List ℕ
arena_text n a = line_text (codes "arena") (decimal n ∷ decimal a.size ∷ decimal a.out ∷ decimal a.holes ∷ decimal a.taken ∷ decimal a.back ∷ [])

-- the arenas' lines, numbered from n on
abbrev pub arena_texts : ℕ → List ArenaLine → List ℕ
arena_texts n [] = []
arena_texts n (a ∷ arenas) = arena_text n a ++ arena_texts (n + 1) arenas

-- `process NAME STATE BLOCKS BYTES`
unfoldable pub place_text : List (List ℕ) → PlaceLine → List ℕ
place_text names p = line_text (codes "process") (slice_index_or names p.place [] ∷ state_text p.state ∷ decimal p.blocks ∷ decimal p.bytes ∷ [])

abbrev pub place_texts : List (List ℕ) → List PlaceLine → List ℕ
place_texts names [] = []
place_texts names (p ∷ places) = place_text names p ++ place_texts names places

unfoldable pub sum_text : List ℕ → ℕ → List ℕ
sum_text word n = line_text word (decimal n ∷ [])

-- `owned N`, `flight N` and `out N`
abbrev pub sums_text : Ledger → List ℕ
sums_text l = sum_text (codes "owned") l.owned ++ (sum_text (codes "flight") l.flight ++ sum_text (codes "out") l.out)

-- the ledger, with the names of the processes by place
abbrev pub ledger_text : Ledger → List (List ℕ) → List ℕ
ledger_text l names = arena_texts 0 l.arenas.items ++ (place_texts names l.places.items ++ sums_text l)

-- ---- what is in flight

-- `direction D BLOCKS BYTES`
unfoldable pub flight_text : FlightLine → List ℕ
flight_text l = line_text (codes "direction") (decimal l.direction ∷ decimal l.blocks ∷ decimal l.bytes ∷ [])

abbrev pub flight_texts : List FlightLine → List ℕ
flight_texts [] = []
flight_texts (l ∷ lines) = flight_text l ++ flight_texts lines
