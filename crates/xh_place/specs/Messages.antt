-- Give and take: what they do to the place, and why they are refused. `status` says how far the process that calls has come.
use Rattle.std.specs.Prelude.{◌≡◌, ◌==◌, ℕ, List, [], ◌++◌, is_some, map, Result, Ok, Err, MatchResult, OnErr, Some}
use Rattle.std.specs.List.{list_any}
use Rattle.arrayvec.specs.ArrayVec.{ArrayVec}
use Rattle.xh_arena.specs.Views.{LotOf}
use Rattle.xh_channel.specs.declared.message.Message.{Message}
use Rattle.xh_channel.specs.declared.refused.Refused.{Refused as NoMessage}
use Rattle.xh_channel.specs.declared.unsent.Unsent.{Unsent}
use Rattle.xh_channel.specs.declared.unsent.Unsent.TheVariants as unsent
use Rattle.xh_channel.specs.Refusals.{same_refusal}
use Rattle.xh_core.specs.Calls.{end_tests, given_tests, start}
use Rattle.xh_core.specs.declared.refused.Refused.{Refused}
use Rattle.xh_core.specs.declared.refused.Refused.TheVariants.{Protocol, PeerClosed, Full}
use Rattle.xh_core.specs.declared.status.Status.{Status}
use Rattle.xh_model.specs.declared.limits.TheConstants.{END_BYTES}
use Rattle.xh_model.specs.Keyed.{Among, keys, put, value_at}
use Rattle.xh_channel.specs.Calls.{EndpointPuts, EndpointTakes}
use Rattle.xh_place.specs.declared.body.Body.{Body}
use Rattle.xh_place.specs.Bodies.{away, content_of, direction_toward}
use Rattle.xh_place.specs.Endpoints.{AreFetched, AreGot, EndDoes, record_got}
use Rattle.xh_place.specs.Calls.{RefusedOr}
use Rattle.xh_place.specs.Deeds.{accepted_on, passed_on}
use Rattle.xh_place.specs.declared.got.Taken.{Taken}
use Rattle.xh_place.specs.Places.{Item, PlaceSeen, found, item_of, shown}
use Rattle.xh_place.specs.Seen.{Becomes, IsSeen, IsSeenAfter, Stays, less_all}

-- ---- give

-- the refusal of a put, with the blocks that came back
abbrev pub refusal : ArrayVec ℕ → Unsent → Refused
refusal back unsent.Protocol = Protocol back
refusal back unsent.PeerClosed = PeerClosed back
refusal back unsent.Full = Full back

-- The endpoint put the blocks with the tag, and the answer is that of the put. Each was passed on the direction, in the order given, as it was.
-- Then those that came back were accepted from that direction, as they are now, and are in their old places; the others have left the list.
-- Where the put was refused, each given block in turn came back, as the last pass left it; or another word than "in flight on the direction" was seen after it was passed there.
pub record IsSent (e tag : ℕ) (given : List ℕ) (old new : PlaceSeen) (result : Result ℕ Refused) : Type 0 where
  pub before : LotOf Body
  pub after : LotOf Body
  pub answered : Result ℕ Unsent
  pub back : List ℕ
  pub held : (value_at e old.seat.lots ≡ Some before) × (before.len ≡ END_BYTES) × (value_at e new.seat.lots ≡ Some after)
  pub made : EndDoes (EndpointPuts tag (record { items = given }) answered) before after
  pub others : (r : ℕ) → (Among given r → ⊥) → (e ≡ r → ⊥) → value_at r new.seat.lots ≡ value_at r old.seat.lots
  pub moved : Becomes new.seat.lots (less_all given (λ r. list_any (λ q. q == r) back) old.list)
      (passed_on old.seat.process (away (content_of before.body)) (shown old.seat.lots given) ++ accepted_on old.seat.process (away (content_of before.body)) (shown new.seat.lots back)) old new
  pub seen : OnErr answered (AreFetched (IsSeenAfter (away (content_of before.body)) old.seat.process old.seat.shape old.seat.front new.seat.front) (away (content_of before.body)) given
      (shown new.seat.lots back))
  pub answer : MatchResult answered (λ no. (result ≡ Ok no) × (back ≡ [])) (λ u. (named : ArrayVec ℕ) × (result ≡ Err (refusal named u)) × (named.items ≡ back))

-- the endpoint put the blocks with the tag; they were passed on the direction away from it, and left the list, or came back from it, and are in their old places
abbrev pub Gives : Status → ℕ → ℕ → List ℕ → PlaceSeen → PlaceSeen → Result ℕ Refused → Type 0
Gives status e tag given old new result = RefusedOr (start status ++ end_tests (found old.seat e) ++ given_tests (λ r. is_some (value_at r old.seat.lots)) e given) result
    (Stays old new) (IsSent e tag given old new result)

-- ---- take

-- The endpoint took a message, and the answer has its number and tag, and tells of each of its blocks, in their order.
-- Those that were on the direction came, each as it was passed, and are the last of the seat and of the list, in their order.
pub record IsTaken (e : ℕ) (old new : PlaceSeen) (taken : Taken) : Type 0 where
  pub before : LotOf Body
  pub after : LotOf Body
  pub message : Message
  pub gained : List (ℕ × LotOf Body)
  pub blocks : List (ℕ × Item)
  pub held : (value_at e old.seat.lots ≡ Some before) × (before.len ≡ END_BYTES)
  pub made : EndDoes (EndpointTakes (Ok message)) before after
  pub told : (taken.no ≡ message.no) × (taken.tag ≡ message.tag) × (map record_got taken.blocks.items ≡ message.blocks.items)
  pub came : blocks ≡ map (λ x. (x.0, item_of x.1)) gained
  pub list : Becomes (put e after old.seat.lots ++ gained) (old.list ++ keys gained) (accepted_on old.seat.process (direction_toward (content_of before.body)) blocks) old new
  pub got : AreGot (IsSeen old.seat new.seat) (direction_toward (content_of before.body)) blocks taken.blocks.items

-- the endpoint took nothing, and the answer is that of the take
pub record IsUntaken (e : ℕ) (old new : PlaceSeen) (refused : Refused) : Type 0 where
  pub before : LotOf Body
  pub after : LotOf Body
  pub none : NoMessage
  pub held : (value_at e old.seat.lots ≡ Some before) × (before.len ≡ END_BYTES)
  pub made : EndDoes (EndpointTakes (Err none)) before after
  pub list : Becomes (put e after old.seat.lots) old.list [] old new
  pub answer : refused ≡ same_refusal none

-- the endpoint took a message, and its blocks are the last of the list; or it took none, and the answer is that of its take
abbrev pub TakesAt : Status → ℕ → PlaceSeen → PlaceSeen → Result Taken Refused → Type 0
TakesAt status e old new result = RefusedOr (start status ++ end_tests (found old.seat e)) result (Stays old new) (MatchResult result (IsTaken e old new) (IsUntaken e old new))
