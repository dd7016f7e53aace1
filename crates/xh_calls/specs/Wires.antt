-- What the steps of wiring do: side 0 of a channel is of the one process, and side 1 comes to the other.
use Rattle.std.specs.Prelude.{◌≡◌, ◌≢◌, ◌⊎◌, ℕ, ◌+◌, ◌*◌, ◌≤◌, true, false, List, [], ◌∷◌, length, Option, None, Some, Result, Ok, Err, MatchResult}
use Rattle.xh_arena.specs.Views.{LotOf}
use Rattle.xh_core.specs.Calls.{start}
use Rattle.xh_core.specs.declared.block.Block.{Block}
use Rattle.xh_core.specs.declared.refused.Refused.{Refused}
use Rattle.xh_core.specs.declared.refused.Refused.TheVariants.{Ended}
use Rattle.xh_core.specs.declared.status.Status.TheVariants.{Vacant}
use Rattle.xh_core.specs.Refusing.{first_refusal}
use Rattle.xh_model.specs.declared.limits.TheConstants.{END_BYTES}
use Rattle.xh_model.specs.declared.row.Row.{Row}
use Rattle.xh_model.specs.Keyed.{value_at, without}
use Rattle.xh_place.specs.Bodies.{IsEndAt, content_of}
use Rattle.xh_place.specs.declared.body.Body.{Body}
use Rattle.xh_place.specs.Reclaiming.{IsClosed}
use Rattle.xh_place.specs.Accepting.{ending_again, is_here, IsTooLate}
use Rattle.xh_place.specs.Deeds.{passed_on}
use Rattle.xh_place.specs.Places.{IsBlock, PlaceSeen, item_of}
use Rattle.xh_records.specs.Seats.{SawAt}
use Rattle.xh_place.specs.Seen.{Stays, Becomes, Gains, IsElsewhere, IsSeen, brings, less}
use Rattle.xh_calls.specs.declared.wired.Wired.{Wired}
use Rattle.xh_calls.specs.Channels.{OpensChannel}
use Rattle.xh_calls.specs.Parts.{PartsOf}
use Rattle.xh_calls.specs.Places.{status_at}

-- the block of the record is side 0 of the channel
abbrev pub HasLow : ℕ → ℕ → PlaceSeen → Type 0
HasLow channel r place = (l : LotOf Body) × (value_at r place.seat.lots ≡ Some l) × IsEndAt (content_of l.body) channel 0

-- the direction toward side 1 of a channel
abbrev pub toward_high : ℕ → ℕ
toward_high channel = 2 * channel + 1

-- ---- both sides at p, the first process

-- p opened a channel, and passed its side 1 on the direction toward it; or could not open one
abbrev pub OpensToward : PartsOf → ℕ → ℕ → Option (List Row) → PlaceSeen → PlaceSeen → Result Wired Refused → Type 0
OpensToward parts p arena contract old new result = MatchResult result
    (λ w. (mid : PlaceSeen) × OpensChannel parts p arena contract old mid (Ok (w.low, w.high)) × HasLow w.channel w.low.rec mid
    × ((l : LotOf Body) × (value_at w.high.rec mid.seat.lots ≡ Some l)
    × Becomes (without w.high.rec mid.seat.lots) (less w.high.rec mid.list) (passed_on mid.seat.process (toward_high w.channel) ((w.high.rec, item_of l) ∷ [])) mid new))
    (λ refused. OpensChannel parts p arena contract old new (Err refused))

-- ---- side 1, on its way to q on the direction d

-- it came to the end of q's list as it was passed, and is the block that is answered
abbrev pub Receives : ℕ → ℕ → ℕ → PlaceSeen → PlaceSeen → Block → Type 0
Receives q d r old new b = (is_here old q ≡ true) × (b.rec ≡ r)
    × ((l : LotOf Body) × (l.len ≡ b.len) × Gains d r l old new × IsBlock old.seat.shape r l × IsSeen old.seat new.seat r (brings d (item_of l)))

-- nobody has q's place; or another word was seen than "in flight on the direction"; or q doesn't run there, and it was swept: no fewer bytes came back than it has
abbrev pub ComesTooLate : ℕ → ℕ → ℕ → PlaceSeen → PlaceSeen → ℕ → Type 0
ComesTooLate q d r old new bytes =
    ((Stays old new × (bytes ≡ 0)) × ((old.state ≡ Vacant) ⊎ IsElsewhere (SawAt old.seat.shape old.seat.front new.seat.front) d r))
    ⊎ ((is_here old q ≡ false) × (old.state ≢ Vacant) × IsTooLate d r (ending_again old.state (length new.list)) old new bytes)

-- it was received; or came too late, and then Ended is the answer
abbrev pub ReceivesOr : ℕ → ℕ → ℕ → ℕ → PlaceSeen → PlaceSeen → Result Block Refused → Type 0
ReceivesOr q d r bytes old new result = MatchResult result (λ b. (bytes ≡ 0) × Receives q d r old new b) (λ why. (why ≡ Ended) × ComesTooLate q d r old new bytes)

-- ---- side 0, of the record r of p, once side 1 came too late

-- p doesn't run any more; or has it no more; or it runs, has it, and it was closed: no fewer bytes came back than it has
abbrev pub ClosesAgain : ℕ → ℕ → ℕ → PlaceSeen → PlaceSeen → ℕ → Type 0
ClosesAgain p channel r old new bytes =
    ((Stays old new × (bytes ≡ 0)) × (((refused : Refused) × (first_refusal (start (status_at p old)) ≡ Some refused)) ⊎ (HasLow channel r old → ⊥)))
    ⊎ ((first_refusal (start (status_at p old)) ≡ None) × HasLow channel r old
    × ((result : Result ℕ Refused) × IsClosed r old new bytes result × (END_BYTES ≤ bytes)))
