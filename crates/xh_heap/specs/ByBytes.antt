-- Messages of bytes, each by one call of a handle: the calls that it makes, one after the other.
use Rattle.std.specs.Prelude.{◌≡◌, ℕ, List, [], ◌∷◌, Option, Result, Ok, Err, IfErr, MatchOption, MatchResult, Vec}
use Rattle.std.specs.Result.{result_map_both, result_unwrap_or}
use Rattle.std.specs.declared.alloc.Global.{Global}
use Rattle.xh_calls.specs.Leading.{Leading}
use Rattle.xh_calls.specs.Parts.{PartsOf}
use Rattle.xh_core.specs.declared.refused.Refused.{Refused}
use Rattle.xh_core.specs.declared.refused.Refused.TheVariants.{NotData}
use Rattle.xh_heap.specs.Handles.{Acts, ActsBy, Awaits, HandleOf}
use Rattle.xh_heap.specs.Values.{Answers, block_back, block_of, end_at, gift, message_of, plain, rec_at}
use Rattle.xh_heap.specs.declared.by_bytes.Came.{Came}
use Rattle.xh_heap.specs.declared.by_bytes.Came.TheVariants as came
use Rattle.xh_heap.specs.declared.values.Block.{Block}
use Rattle.xh_heap.specs.declared.values.End.{End}
use Rattle.xh_heap.specs.declared.values.Item.{Item}
use Rattle.xh_heap.specs.declared.values.Item.TheVariants as item
use Rattle.xh_heap.specs.declared.values.Message.{Message}
use Rattle.xh_heap.specs.declared.values.Returned.{Returned}
use Rattle.xh_kernel.specs.Did.{DidGive, DidIntoBytes, DidPut, DidTake}
use Rattle.xh_kernel.specs.Waits.{AtLast, no_room}

-- what a give was told, without the block that came back: the bytes left are what an `into_bytes` of that answered; there are none where it was refused, or no block came
abbrev pub Regains : Leading → Result ℕ (Returned (Option Block)) → Result ℕ Refused → List ℕ → HandleOf → HandleOf → Type 0
Regains leads (Ok number) result left old new = (result ≡ Ok number) × (left ≡ []) × (new ≡ old)
Regains leads (Err returned) result left old new = (result ≡ Err returned.why) × MatchOption returned.value ((left ≡ []) × (new ≡ old))
    (λ b. (back : Result (List ℕ) Refused) × (left ≡ result_unwrap_or back []) × ActsBy (rec_at b) (λ p r. DidIntoBytes leads p r back) old new)

-- the bytes were put and then their block given, with such a wait for room, and where that was refused those are left that came back; or the put was refused, and all are left
abbrev pub GivesByBytes : PartsOf → Leading → End → (tag arena : ℕ) → (bytes left : List ℕ) → (Result ℕ Refused → List ℕ → Type 0) → Result ℕ Refused → HandleOf → HandleOf → Type 0
GivesByBytes parts leads end tag arena bytes left Waited result old new = (put : Result Block Refused) × (mid : HandleOf) × Acts (λ p. Answers (DidPut parts leads p bytes arena) (block_of p) put) old mid
    × MatchResult put (λ b. let given = gift end (item.Block b ∷ []) in (told : Result ℕ (Returned (Option Block))) × (last : HandleOf)
    × ActsBy given (λ p g. AtLast (DidGive leads p g.0 tag g.1) (no_room g.1) (plain told)) mid last × Waited (plain told) (given mid.number).1
    × IfErr told (λ e. e.value ≡ block_back mid.number e.why b) × Regains leads told result left last new)
    (λ why. (result ≡ Err why) × (left ≡ bytes) × (new ≡ mid))

-- a message of one block and nothing else is shown as its bytes, which an `into_bytes` answered; any other as it is, and also where that was refused
abbrev pub Unpacks : Leading → Message → List Item → Came → HandleOf → HandleOf → Type 0
Unpacks leads m (item.Block b ∷ []) shown old new = (told : Result (Vec ℕ Global) Refused) × MatchResult told (λ bytes. shown ≡ came.Bytes m.no m.tag bytes) (λ why. shown ≡ came.Message m)
    × ActsBy (rec_at b) (λ p r. DidIntoBytes leads p r (result_map_both (λ v. v.items) (λ why. why) told)) old new
Unpacks leads m items shown old new = (shown ≡ came.Message m) × (new ≡ old)

-- a message was taken, and is shown so; or the take was refused
abbrev pub TakesByBytes : Leading → End → Result Came Refused → HandleOf → HandleOf → Type 0
TakesByBytes leads e result old new = (told : Result Message Refused) × (mid : HandleOf) × ActsBy (end_at e) (λ p r. Answers (Awaits (DidTake leads p r)) (message_of p) told) old mid
    × MatchResult told (λ m. (shown : Came) × (result ≡ Ok shown) × Unpacks leads m m.items.items shown mid new) (λ why. (result ≡ Err why) × (new ≡ mid))

abbrev pub bytes_in : Came → Result (Vec ℕ Global) Refused
bytes_in (came.Bytes number tag bytes) = Ok bytes
bytes_in (came.Message m) = Err NotData
