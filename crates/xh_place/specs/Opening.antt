-- What an open does to a place: both ends of a new channel come to its list.
use Rattle.std.specs.Prelude.{◌≡◌, ℕ, ◌*◌, ◌/◌, List, [], ◌∷◌, ◌++◌, Some, Result, MatchOption, MatchResult, IfErr, OnOk, option_map}
use Rattle.xh_arena.specs.Views.{LotOf, TallyOf}
use Rattle.xh_channel.specs.Endpoint.{EndpointOf}
use Rattle.xh_core.specs.declared.block.Block.{Block}
use Rattle.xh_core.specs.declared.refused.Refused.{Refused}
use Rattle.xh_core.specs.Refusing.{Tests, first_refusal}
use Rattle.xh_model.specs.declared.limits.TheConstants.{END_BYTES, MAX_RECORDS}
use Rattle.xh_model.specs.Keyed.{value_at}
use Rattle.xh_records.specs.Seats.{Held, IsRecord}
use Rattle.xh_place.specs.declared.body.Body.{Body}
use Rattle.xh_place.specs.declared.opening.Unopened.{Unopened}
use Rattle.xh_place.specs.Deeds.{claimed}
use Rattle.xh_place.specs.Endpoints.{end_block}
use Rattle.xh_place.specs.Places.{PlaceSeen, item_of}
use Rattle.xh_place.specs.Seen.{Becomes, LeavesIt}
use Rattle.xh_place.specs.Tallies.{took}

-- an endpoint's length, and a record of the arena
abbrev pub IsEndIn : ℕ → Block → Type 0
IsEndIn arena b = (b.len ≡ END_BYTES) × (b.rec / MAX_RECORDS ≡ arena)

-- both came to the end of the list, once their records were claimed in this order
abbrev pub HasBoth : EndpointOf → EndpointOf → Block × Block → PlaceSeen → PlaceSeen → Type 0
HasBoth low high ends old new = (l m : LotOf Body) × (item_of l ≡ end_block low) × (item_of m ≡ end_block high)
    × Becomes (old.seat.lots ++ (ends.0.rec, l) ∷ (ends.1.rec, m) ∷ []) (old.list ++ ends.0.rec ∷ ends.1.rec ∷ []) (claimed old.seat.process (ends.0.rec ∷ ends.1.rec ∷ [])) old new

-- both are blocks of the seat, and their records exist
abbrev pub AreListed : EndpointOf → EndpointOf → Held Body → Block × Block → Type 0
AreListed low high seat ends = (option_map item_of (value_at ends.0.rec seat.lots) ≡ Some (end_block low)) × IsRecord seat.shape ends.0.rec
    × (option_map item_of (value_at ends.1.rec seat.lots) ≡ Some (end_block high)) × IsRecord seat.shape ends.1.rec

-- Both ends are the last blocks of the list, side 0 first, each of 32 bytes of the arena, and their records were claimed in this order; or records were claimed in vain, if any, and the ends are
-- handed back.
abbrev pub Opens : ℕ → EndpointOf → EndpointOf → PlaceSeen → PlaceSeen → List TallyOf → List TallyOf → Result (Block × Block) Unopened → Type 0
Opens arena low high old new tallies left result = MatchResult result
    (λ ends. HasBoth low high ends old new × IsEndIn arena ends.0 × IsEndIn arena ends.1
    × (left ≡ took arena (2 * END_BYTES) tallies) × AreListed low high new.seat ends)
    (λ u. (u.low ≡ low) × (u.high ≡ high) × LeavesIt 2 arena old new × (left ≡ tallies))

-- the first refusal whose test is true, and then the vaults are as they were; else what there was a lack of
abbrev pub IsUnopened : Tests → Type 0 → (Refused → Type 0) → Result (Block × Block) Unopened → Type 0
IsUnopened tests same lack result = MatchOption (first_refusal tests) (IfErr result (λ u. lack u.why)) (λ refused. IfErr result (λ u. u.why ≡ refused) × OnOk result ⊥ × same)
