-- How an endpoint is drained: the messages that it takes, and what comes with them.
use Rattle.std.specs.Prelude.{◌≡◌, ℕ, List, [], ◌∷◌, ◌++◌, Ok, Some}
use Rattle.xh_channel.specs.declared.message.Message.{Message}
use Rattle.std.specs.List.{flat_map}
use Rattle.xh_arena.specs.Views.{LotOf}
use Rattle.xh_channel.specs.Calls.{EndpointTakes}
use Rattle.xh_channel.specs.Endpoint.{EndpointOf}
use Rattle.xh_model.specs.Keyed.{keys, put, value_at}
use Rattle.xh_place.specs.declared.body.Body.{Body}
use Rattle.xh_place.specs.Bodies.{content_of, direction_toward}
use Rattle.xh_place.specs.Endpoints.{AreFetched, EndDoes, EndsWith}
use Rattle.xh_place.specs.Deeds.{accepted_on}
use Rattle.xh_place.specs.Places.{PlaceSeen}
use Rattle.xh_place.specs.inner.Lots.{items_of}
use Rattle.xh_place.specs.Seen.{Becomes, IsSeen}

-- it takes these messages, one after another
abbrev pub TakesEach : List Message → EndpointOf → EndpointOf → Type 0
TakesEach [] old new = new ≡ old
TakesEach (m ∷ ms) old new = (mid : EndpointOf) × EndpointTakes (Ok m) old mid × TakesEach ms mid new

-- these came on the direction, the last ones of the seat and of the list
abbrev pub GainsAll : ℕ → List (ℕ × LotOf Body) → PlaceSeen → PlaceSeen → Type 0
GainsAll d gained old new = Becomes (old.seat.lots ++ gained) (old.list ++ keys gained) (accepted_on old.seat.process d (items_of gained)) old new

-- the lot l of the record e became m, and these came on the direction toward it, the last ones of the seat and of the list
abbrev pub Changes : ℕ → LotOf Body → LotOf Body → List (ℕ × LotOf Body) → PlaceSeen → PlaceSeen → Type 0
Changes e l m gained old new = (value_at e old.seat.lots ≡ Some l)
    × Becomes (put e m old.seat.lots ++ gained) (old.list ++ keys gained) (accepted_on old.seat.process (direction_toward (content_of l.body)) (items_of gained)) old new

-- the endpoint took these messages and did so, and these came with them
abbrev pub Drains : (List Message → EndpointOf → EndpointOf → Type 0) → ℕ → List Message → PlaceSeen → PlaceSeen → Type 0
Drains does e ms old new = (l m : LotOf Body) × (gained : List (ℕ × LotOf Body)) × EndDoes (does ms) l m × Changes e l m gained old new
    × AreFetched (IsSeen old.seat new.seat) (direction_toward (content_of l.body)) (flat_map (λ (m : Message). m.blocks.items) ms) (items_of gained)

-- A block of the list is about to go: an endpoint was shut and drained, and these came with its messages. Of a data block nothing changed.
abbrev pub Clears : ℕ → LotOf Body → LotOf Body → List (ℕ × LotOf Body) → PlaceSeen → PlaceSeen → Type 0
Clears r l m gained old new = Changes r l m gained old new × (m.len ≡ l.len) × EndsWith (IsSeen old.seat new.seat) (content_of l.body) (items_of gained)
