-- What the looks at several endpoints of a place go by.
use Rattle.std.specs.Prelude.{◌≡◌, ℕ, true, List, [], ◌∷◌, Option, None, Err, MatchOption}
use Rattle.xh_core.specs.Calls.{start}
use Rattle.xh_core.specs.Headers.{has_end}
use Rattle.xh_core.specs.Refusing.{first_refusal}
use Rattle.xh_core.specs.declared.header.Header.{Header}
use Rattle.xh_core.specs.declared.refused.Refused.{Refused}
use Rattle.xh_calls.specs.Places.{status_at}
use Rattle.xh_calls.specs.Several.{AnswersAt, FindNone, HaveNone, peer_closed}
use Rattle.xh_place.specs.Places.{PlaceSeen, found}

-- each is an endpoint, by what was found
abbrev pub AreEnds : (ℕ → Option Header) → List ℕ → Type 0
AreEnds found [] = Unit {0}
AreEnds found (e ∷ es) = (has_end (found e) ≡ true) × AreEnds found es

-- each is one of the place, whose process runs
abbrev pub AreReady : ℕ → PlaceSeen → List ℕ → Type 0
AreReady p place ends = (first_refusal (start (status_at p place)) ≡ None) × AreEnds (found place.seat) ends

-- the index of the first of those endpoints whose peer is closed, with its answer, or all of them are empty
abbrev pub HasAnswer : ℕ → List ℕ → PlaceSeen → PlaceSeen → Option (ℕ × Refused) → Type 0
HasAnswer p ends old new closed =
    MatchOption closed (FindNone p ends old new) (λ c. (c.1 ≡ peer_closed) × AnswersAt p ends old new (record { at = c.0; answer = Err c.1 }))

-- none of the endpoints that were looked at had a message
abbrev pub HaveLooked : ℕ → List ℕ → PlaceSeen → PlaceSeen → Option (ℕ × Refused) → Type 0
HaveLooked p ends old new closed = HaveNone p ends old new × HasAnswer p ends old new closed
