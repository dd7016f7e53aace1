-- A take at the first of several endpoints that has a message.
use Rattle.std.specs.Prelude.{◌≡◌, ℕ, List, [], ◌∷◌, ◌++◌, length, nat_lt, Option, Result, Err, MatchResult}
use Rattle.xh_core.specs.Calls.{end_tests, start}
use Rattle.xh_core.specs.Refusing.{Tests}
use Rattle.xh_core.specs.Several.{has_twice}
use Rattle.xh_core.specs.declared.header.Header.{Header}
use Rattle.xh_core.specs.declared.refused.Refused.{Refused}
use Rattle.xh_core.specs.declared.refused.Refused.TheVariants.{Empty, PeerClosed, TooMany, Twice}
use Rattle.xh_place.specs.Calls.{RefusedOr}
use Rattle.xh_place.specs.Places.{PlaceSeen, found}
use Rattle.xh_place.specs.Seen.{Stays}
use Rattle.xh_calls.specs.declared.several.AnsweredAt.{AnsweredAt}
use Rattle.xh_calls.specs.declared.several.TheConstants.{MAX_ENDS}
use Rattle.xh_calls.specs.Places.{status_at}
use Rattle.xh_place.specs.Messages.{TakesAt}

-- ---- why it is refused

-- the tests of each of the endpoints, one after the other
abbrev pub each_end : (ℕ → Option Header) → List ℕ → Tests
each_end found [] = []
each_end found (e ∷ es) = end_tests (found e) ++ each_end found es

abbrev pub several_tests : ℕ → PlaceSeen → List ℕ → Tests
several_tests p place ends = start (status_at p place) ++ (nat_lt MAX_ENDS (length ends), TooMany) ∷ (each_end (found place.seat) ends ++ (has_twice ends, Twice) ∷ [])

-- ---- what its looks find

-- each of the endpoints was looked at, in their order, and none had a message
abbrev pub HaveNone : ℕ → List ℕ → PlaceSeen → PlaceSeen → Type 0
HaveNone p [] old new = new ≡ old
HaveNone p (e ∷ es) old new = (mid : PlaceSeen) × (why : Refused) × TakesAt (status_at p old) e old mid (Err why) × HaveNone p es mid new

-- each of the endpoints was looked at, in their order, and had no message and an open peer
abbrev pub FindNone : ℕ → List ℕ → PlaceSeen → PlaceSeen → Type 0
FindNone p [] old new = new ≡ old
FindNone p (e ∷ es) old new = (mid : PlaceSeen) × TakesAt (status_at p old) e old mid (Err Empty) × Stays old mid × FindNone p es mid new

-- what the take of an endpoint answers whose peer is closed and which has no message
abbrev pub peer_closed : Refused
peer_closed = PeerClosed (record { items = [] })

-- The endpoint of the index took a message, and those before it had none; or its peer is closed, those before it are open, and none of all had a message.
pub record AnswersAt (p : ℕ) (ends : List ℕ) (old new : PlaceSeen) (a : AnsweredAt) : Type 0 where
  pub before : List ℕ
  pub e : ℕ
  pub after : List ℕ
  pub first : PlaceSeen
  pub mid : PlaceSeen
  pub ends_are : ends ≡ before ++ e ∷ after
  pub index : a.at ≡ length before
  pub takes : TakesAt (status_at p first) e first mid a.answer
  pub looks : MatchResult a.answer (λ _. HaveNone p before old first × (new ≡ mid))
      (λ why. (why ≡ peer_closed) × FindNone p before old first × HaveNone p after mid new)

-- one of the endpoints answers, or each of them was looked at and was empty
abbrev pub TakesFirst : ℕ → List ℕ → PlaceSeen → PlaceSeen → Result AnsweredAt Refused → Type 0
TakesFirst p ends old new result = MatchResult result (AnswersAt p ends old new) (λ why. (why ≡ Empty) × FindNone p ends old new)

-- the first test that refuses is the answer, and then nothing changed; else the first message is taken
abbrev pub TakesAny : ℕ → List ℕ → PlaceSeen → PlaceSeen → Result AnsweredAt Refused → Type 0
TakesAny p ends old new result = RefusedOr (several_tests p old ends) result (Stays old new) (TakesFirst p ends old new result)
